-- Defines a club: its rows, the sums over its bookings and its invariants. A club stores no sums. A
-- store keeps a key's older root separately from the key's row.
use Rattle.std.specs.{List.list_any, Prelude.{ℕ, ◌-◌, ◌==◌, ◌&&◌, not, Bool, List, length, nat_lt, filter, find, fold, max, sum_by, Option, ◌≡◌, ◌≢◌, ◌≤◌, []}}
use Rattle.std.specs.{Prelude.{map, All, AllPairs, Contains, option_and_then}, Str.bytes_eq}
use Rattle.club_rows.specs.{Rows.{same_slot, persons_of, IsMember, IsFacility, IsKey, IsSlot, IsBooking}, declared.booking.Booking.Booking}
use Rattle.club_rows.specs.declared.{facility.Facility.Facility, key.{Key.Key, OlderRoot.OlderRoot}, member.Member.Member}
use Rattle.club_values.specs.{Moment.start_of, declared.slot.Slot.Slot}

-- Whether a booking occupies places in the slot. A cancelled booking occupies no places.
abbrev pub is_in : Slot → Booking → Bool
is_in slot booking = not booking.cancelled && same_slot booking.slot slot

-- The number of persons in the slot, summed over these bookings.
abbrev pub taken_in : Slot → List Booking → ℕ
taken_in slot bookings = sum_by persons_of (filter (is_in slot) bookings)

-- Whether a booking's slot is at the facility with this name.
abbrev pub is_at : List ℕ → Booking → Bool
is_at facility booking = bytes_eq booking.slot.facility facility

-- The highest number of persons in any slot of the facility. The number is 0 if the facility has no
-- bookings.
abbrev pub most_taken_in : List ℕ → List Booking → ℕ
most_taken_in facility bookings = fold (λ most booking. max most (taken_in booking.slot bookings)) 0 (filter (is_at facility) bookings)

-- The points that a booking has cost: its charge minus its refund.
abbrev pub cost_of : Booking → ℕ
cost_of booking = booking.charge - booking.refund

-- Whether the booking's key has this name.
abbrev pub is_under : List ℕ → Booking → Bool
is_under key booking = bytes_eq booking.key key

-- The points that a key has spent, summed over the key's bookings in the list.
abbrev pub spent_under : List ℕ → List Booking → ℕ
spent_under key bookings = sum_by cost_of (filter (is_under key) bookings)

-- A member's balance: the points credited to the member minus the cost of these bookings.
abbrev pub balance_of : Member → List Booking → ℕ
balance_of member bookings = member.credited - sum_by cost_of bookings

-- Whether a booking is open. An open booking isn't cancelled, and its slot begins after the given
-- moment.
abbrev pub is_to_come : ℕ → Booking → Bool
is_to_come moment booking = not booking.cancelled && nat_lt moment (start_of booking.slot)

-- The number of these bookings that are open.
abbrev pub count_to_come : ℕ → List Booking → ℕ
count_to_come moment bookings = length (filter (is_to_come moment) bookings)

-- The key's booking with this number.
abbrev pub booking_under : List ℕ → ℕ → List Booking → Option Booking
booking_under key number bookings = find (λ booking. is_under key booking && booking.number == number) bookings

-- The rows of a club, and the closed slots. Each list begins with the oldest element.
pub record Club : Type 0 where
  pub members : List Member
  pub facilities : List Facility
  pub keys : List Key
  pub bookings : List Booking
  pub closed : List Slot

abbrev pub empty_club : Club
empty_club = record { members = []; facilities = []; keys = []; bookings = []; closed = [] }

-- The first member with this name. In a club that satisfies the invariants, at most one member has
-- the name.
abbrev pub member_named : List ℕ → Club → Option Member
member_named name club = find (λ (member : Member). bytes_eq member.name name) club.members

abbrev pub facility_named : List ℕ → Club → Option Facility
facility_named name club = find (λ (facility : Facility). bytes_eq facility.name name) club.facilities

abbrev pub key_named : List ℕ → Club → Option Key
key_named name club = find (λ (key : Key). bytes_eq key.name name) club.keys

-- Whether the slot is closed.
abbrev pub is_closed : Slot → Club → Bool
is_closed slot club = list_any (λ other. same_slot other slot) club.closed

-- The keys of the member with this name.
abbrev pub keys_of : List ℕ → Club → List Key
keys_of member club = filter (λ (key : Key). bytes_eq key.member member) club.keys

abbrev pub is_key_of : List ℕ → Club → List ℕ → Bool
is_key_of member club name = list_any (λ (key : Key). bytes_eq key.name name) (keys_of member club)

-- The bookings made with any key of the member with this name.
abbrev pub bookings_of : List ℕ → Club → List Booking
bookings_of member club = filter (λ (booking : Booking). is_key_of member club booking.key) club.bookings

-- Each value in the club's rows is within its limits.
pub record HasRows (club : Club) : Type 0 where
  pub members : All IsMember club.members
  pub facilities : All IsFacility club.facilities
  pub keys : All IsKey club.keys
  pub bookings : All IsBooking club.bookings
  pub closed : All IsSlot club.closed

-- Names are unique. A booking's name is its key together with its number.
pub record HasUniqueNames (club : Club) : Type 0 where
  pub members : AllPairs (λ (a : Member) (b : Member). a.name ≢ b.name) club.members
  pub facilities : AllPairs (λ (a : Facility) (b : Facility). a.name ≢ b.name) club.facilities
  pub keys : AllPairs (λ (a : Key) (b : Key). a.name ≢ b.name) club.keys
  pub bookings : AllPairs (λ (a : Booking) (b : Booking). ¬ ((a.key ≡ b.key) × (a.number ≡ b.number))) club.bookings
  pub closed : AllPairs (λ (a : Slot) (b : Slot). a ≢ b) club.closed

-- Rows name only members, keys and facilities that exist.
pub record HasReferences (club : Club) : Type 0 where
  pub keys : All (λ (key : Key). Contains (map (λ (m : Member). m.name) club.members) key.member) club.keys
  pub bookings : All (λ (booking : Booking). Contains (map (λ (k : Key). k.name) club.keys) booking.key) club.bookings
  pub facilities : All (λ (booking : Booking). Contains (map (λ (f : Facility). f.name) club.facilities) booking.slot.facility) club.bookings
  pub closed : All (λ (slot : Slot). Contains (map (λ (f : Facility). f.name) club.facilities) slot.facility) club.closed

-- The invariants of a club.
pub record IsSound (club : Club) : Type 0 where
  pub rows : HasRows club
  pub unique : HasUniqueNames club
  pub references : HasReferences club
  -- No member's balance is below 0.
  pub balances : All (λ (member : Member). sum_by cost_of (bookings_of member.name club) ≤ member.credited) club.members
  -- No slot has more persons than its facility has places.
  pub places : All (λ (facility : Facility). (slot : Slot) → slot.facility ≡ facility.name → taken_in slot club.bookings ≤ facility.places) club.facilities

-- The older root of the key with this name. The result is `None` if the office never rotated the
-- key, or if no key has this name.
abbrev pub older_root_of : List ℕ → Club → Option OlderRoot
older_root_of name club = option_and_then (λ (key : Key). key.older) (key_named name club)
