-- Defines the basis and the view of a request. The basis contains the rows on which the answer may
-- depend. The view contains the rows and sums that the rules need to decide the request. `view_of`
-- computes the view from the basis.
use Rattle.std.specs.Prelude.{ℕ, false, List, Option, Some, None, Result, Ok, Err, option_map, option_and_then}
use Rattle.club_core.specs.Club.{Club, member_named, facility_named, key_named, bookings_of, is_closed, taken_in, spent_under, balance_of, count_to_come}
use Rattle.club_core.specs.{Club.booking_under, Request.{Pass, Words, request_slot, request_number}, declared.account.MemberAccount.MemberAccount}
use Rattle.club_core.specs.declared.{pass_fault.PassFault.PassFault, request.Request.Request, slot_use.SlotUse.SlotUse, view.{KeyView.KeyView, View.View}}
use Rattle.club_rows.specs.{Rows.row_of_key, declared.{booking.Booking.Booking, facility.Facility.Facility, key.Key.Key, member.Member.Member}}
use Rattle.club_values.specs.declared.slot.Slot.{Slot}

-- The number of persons in a slot, summed over these bookings, and whether the slot is closed.
-- Without a slot, the number of persons is 0 and `closed` is false.
abbrev pub slot_use_by : List Booking → Club → Option Slot → SlotUse
slot_use_by bookings club None = record { taken = 0; closed = false }
slot_use_by bookings club (Some slot) = record { taken = taken_in slot bookings; closed = is_closed slot club }

-- The number of persons in a slot, and whether the slot is closed.
abbrev pub slot_use : Club → Slot → SlotUse
slot_use club slot = slot_use_by club.bookings club (Some slot)

-- A member's row together with the member's balance.
abbrev pub club_account : Club → Member → MemberAccount
club_account club member = record { member = member; balance = balance_of member (bookings_of member.name club) }

abbrev pub account_named : List ℕ → Club → Option MemberAccount
account_named name club = option_map (club_account club) (member_named name club)

-- The state of a slot. `facility` is `None` if there is no slot, or if the club doesn't have the
-- slot's facility. `held` contains the number of persons, and whether the slot is closed.
pub record SlotState : Type 0 where
  pub facility : Option Facility
  pub held : SlotUse

abbrev pub state_of : Club → Option Slot → SlotState
state_of club slot = record {
  facility = option_and_then (λ (s : Slot). facility_named s.facility club) slot;
  held = slot_use_by club.bookings club slot;
}

-- The rows on which the answer to a request may depend. `bookings` are the bookings made with any
-- key of the member.
pub record Basis : Type 0 where
  pub key : Key
  pub member : Member
  pub bookings : List Booking
  pub state : SlotState

-- The basis of a request that is made with this key. The basis is `None` if the club has no row for
-- the key's member.
abbrev pub basis_under : Club → Request → Key → Option Basis
basis_under club request key =
    option_map (λ (member : Member). record {
      key = key;
      member = member;
      bookings = bookings_of member.name club;
      state = state_of club (request_slot request);
    })
    (member_named key.member club)

-- The name of the key in a pass's identifier. The name is `None` if the pass's text has a fault, or
-- if the identifier names no key.
abbrev pub key_of : Result Pass PassFault → Option (List ℕ)
key_of (Ok pass) = pass.key
key_of (Err fault) = None

-- The basis of a request. The basis is `None` if the pass names no key of the club.
abbrev pub basis_of : Club → Words → Option Basis
basis_of club words =
    option_and_then (basis_under club words.request)
    (option_and_then (λ (name : List ℕ). key_named name club) (key_of words.pass))

-- The view of a request, computed from its basis.
abbrev pub view_of : Basis → Request → ℕ → View
view_of basis request moment = record {
  key = row_of_key basis.key;
  spent = spent_under basis.key.name basis.bookings;
  member = basis.member;
  balance = balance_of basis.member basis.bookings;
  open_count = count_to_come moment basis.bookings;
  facility = basis.state.facility;
  taken = basis.state.held.taken;
  closed = basis.state.held.closed;
  booking = option_and_then (λ (number : ℕ). booking_under basis.key.name number basis.bookings) (request_number request);
}

-- The view of a request that is made with the key named `key`. The view is `None` if no key has
-- this name.
abbrev pub view_in : Club → List ℕ → Request → ℕ → Option View
view_in club key request moment =
    option_map (λ (basis : Basis). view_of basis request moment)
    (option_and_then (basis_under club request) (key_named key club))

-- The key in the basis, and the view of the request.
abbrev pub seen_of : Request → ℕ → Basis → KeyView
seen_of request moment basis = record { key = basis.key; view = view_of basis request moment }

-- The key with this name, and the view of a request that is made with this key. The result is
-- `None` if no key has this name.
abbrev pub key_view_in : Club → List ℕ → Request → ℕ → Option KeyView
key_view_in club key request moment = option_map (seen_of request moment) (option_and_then (basis_under club request) (key_named key club))
