-- Defines which bookings belong to the keys of a member, which events add a row, and when the
-- numbers of a club fit the integer types of the code. The numbers of an empty club fit, and they
-- still fit after each step of the machine.
use Rattle.std.specs.{List.list_any, Prelude.{ℕ, ◌+◌, ◌<◌, length, not, Bool, List, filter, ◌≡◌, ◌≤◌, false, Some, All}, Str.bytes_eq}
use Rattle.club_core.specs.{Club.{Club, member_named, taken_in, spent_under}, Run.{Event, step}}
use Rattle.club_rows.specs.{Rows.{credited_limit, places_limit}, declared.{booking.Booking.Booking, facility.Facility.Facility, key.Key.Key}}
use Rattle.club_rows.specs.declared.member.Member.{Member}
use Rattle.club_values.specs.declared.slot.Slot.{Slot}

-- The number of rows in a club.
abbrev pub row_count : Club → ℕ
row_count club =
    length club.members + length club.facilities + length club.keys + length club.bookings + length club.closed

-- The new club has more rows than the old club.
abbrev pub Grows : Club → Club → Type 0
Grows old new = row_count old < row_count new

-- The event adds a row to the club.
abbrev pub AddsRow : Club → Event → Type 0
AddsRow club event = Grows club (step club event).club

-- True if the key with this name belongs to the member.
abbrev pub is_key_of : List Key → List ℕ → List ℕ → Bool
is_key_of keys member name =
    list_any (λ (key : Key). bytes_eq key.name name) (filter (λ (key : Key). bytes_eq key.member member) keys)

abbrev pub own_bookings : List Key → List ℕ → List Booking → List Booking
own_bookings keys member bookings = filter (λ (booking : Booking). is_key_of keys member booking.key) bookings

abbrev pub others_bookings : List Key → List ℕ → List Booking → List Booking
others_bookings keys member bookings = filter (λ (booking : Booking). not (is_key_of keys member booking.key)) bookings

pub record FitsWidths (club : Club) : Type 0 where
  -- No member is credited with more points than `credited_limit`, and no two different members have
  -- the same name.
  pub credited : All (λ (member : Member). member.credited ≤ credited_limit) club.members
  pub unique : All (λ (member : Member). member_named member.name club ≡ Some member) club.members
  -- No facility has more places than `places_limit`, and no slot has more persons than
  -- `places_limit`.
  pub places : All (λ (facility : Facility). facility.places ≤ places_limit) club.facilities
  pub taken : (slot : Slot) → taken_in slot club.bookings ≤ places_limit
  -- No key has spent more points than `credited_limit`.
  pub spent : (key : List ℕ) → spent_under key club.bookings ≤ credited_limit
  -- A booking that isn't cancelled has no refund.
  pub kept : All (λ (booking : Booking). booking.cancelled ≡ false → booking.refund ≡ 0) club.bookings
