-- Defines the rows and events on which a member's replies depend. The rows are the member's row,
-- keys and bookings, and all facilities. The events are the member's requests, and the office's
-- changes to these rows. For each request, the event also states the number of persons in the slot,
-- not counting the member's bookings, and whether the slot is closed.
use Rattle.std.specs.{Prelude.{ℕ, ◌+◌, not, List, [], ◌∷◌, ◌++◌, filter, Option, Some, None, Result, Ok, Err, option_map, if◌then◌else◌}, Str.bytes_eq}
use Rattle.club_core.specs.{Club.{Club, keys_of, is_key_of, bookings_of}, Run.{Event, Asked, Commanded, step, after_change}, declared.slot_use.SlotUse.SlotUse}
use Rattle.club_core.specs.{Basis.{Basis, basis_of, slot_use_by}, declared.{change.Change.Change, command.OfficeFault.OfficeFault, verdict.Verdict.Verdict}}
use Rattle.club_core.specs.{After.{after, is_own}, Answer.answer_by_basis, Office.office_verdict, Request.{Words, request_slot}, declared.reply.Reply.Reply}
use Rattle.club_rows.specs.declared.{booking.Booking.Booking, member.Member.Member}
use Rattle.club_values.specs.declared.slot.Slot.{Slot}

abbrev pub bookings_of_others : List ℕ → Club → List Booking
bookings_of_others member club = filter (λ (booking : Booking). not (is_key_of member club booking.key)) club.bookings

-- The number of persons in a slot, not counting the bookings of the member with this name, and
-- whether the slot is closed.
abbrev pub outside : List ℕ → Club → Option Slot → SlotUse
outside member club slot = slot_use_by (bookings_of_others member club) club slot

-- An event that concerns one member: a request with a key of the member, or a change by the office
-- to the rows in `part_of`. For the slot of a request, `others` contains the number of persons, not
-- counting the member's bookings, and whether the slot is closed.
pub data OwnEvent : Type 0 where
  OwnAsk : (words : Words) (moment : ℕ) (others : SlotUse) → OwnEvent
  OwnChange : (change : Change) → OwnEvent

abbrev pub own_change : List ℕ → Club → Result (Option Change) OfficeFault → List OwnEvent
own_change name club (Err fault) = []
own_change name club (Ok None) = []
own_change name club (Ok (Some change)) = if is_own name club change then OwnChange change ∷ [] else []

-- A list with the member's own event for a request. The list is empty if the request's pass names
-- no key of the member.
abbrev pub own_ask : List ℕ → Club → Words → ℕ → Option Basis → List OwnEvent
own_ask name club words moment None = []
own_ask name club words moment (Some basis) =
    if bytes_eq basis.member.name name then OwnAsk words moment (outside name club (request_slot words.request)) ∷ [] else []

abbrev pub own_part : List ℕ → Club → Event → List OwnEvent
own_part name club (Asked words moment) = own_ask name club words moment (basis_of club words)
own_part name club (Commanded command) = own_change name club (office_verdict club command)

-- The member's own events in a run of the club, in order.
abbrev pub own_events : List ℕ → Club → List Event → List OwnEvent
own_events name club [] = []
own_events name club (event ∷ events) = own_part name club event ++ own_events name (step club event).club events

-- The member's part of the club: the member's row, keys and bookings, and all facilities.
abbrev pub part_of : List ℕ → Club → Club
part_of name club = record {
  members = filter (λ (member : Member). bytes_eq member.name name) club.members;
  facilities = club.facilities;
  keys = keys_of name club;
  bookings = bookings_of name club;
  closed = [];
}

-- The basis after adding the persons in `others` to the persons in the slot. The value of `closed`
-- also comes from `others`.
abbrev pub with_others : SlotUse → Basis → Basis
with_others others basis = record basis {
  state = record basis.state {
    held = record { taken = basis.state.held.taken + others.taken; closed = others.closed };
  };
}

abbrev pub solo_verdict : Club → Words → ℕ → SlotUse → Verdict
solo_verdict part words moment others = answer_by_basis words moment (option_map (with_others others) (basis_of part words))

-- The replies to the member's requests, computed from the member's part of the club and the
-- member's own events.
abbrev pub solo_replies : Club → List OwnEvent → List Reply
solo_replies part [] = []
solo_replies part (OwnChange change ∷ events) = solo_replies (after change part) events
solo_replies part (OwnAsk words moment others ∷ events) =
    (solo_verdict part words moment others).reply
    ∷ solo_replies (after_change (solo_verdict part words moment others).change part) events
