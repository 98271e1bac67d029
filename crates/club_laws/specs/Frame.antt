-- Laws about the effect of changes and events on a member's part of the club.
use Rattle.std.specs.Prelude.{◌≡◌, ℕ, ◌+◌, Bool, List, [], if◌then◌else◌, Some}
use Rattle.club_core.specs.{After.{after, is_own}, Club.{Club, IsSound, is_key_of, taken_in}, Run.{Event, step}, Solo.{outside, own_part, part_of}}
use Rattle.club_core.specs.declared.change.Change.{Change, TheVariants.InsertBooking}
use Rattle.club_values.specs.declared.slot.Slot.{Slot}

-- Whether a change affects the member's part of the club.
abbrev pub is_of_part : List ℕ → Club → Change → Bool
is_of_part name club (InsertBooking booking member) = is_key_of name club booking.key
is_of_part name club change = is_own name club change

-- The member's part of the club after a change. A change that doesn't affect the part leaves the
-- part unchanged.
abbrev pub part_after : List ℕ → Club → Change → Club
part_after name club change = if is_of_part name club change then after change (part_of name club) else part_of name club

-- If a change leads from a sound club to a sound club, `part_after` is the member's part after the
-- change.
abbrev pub ChangesThePartAlike : Type 0
ChangesThePartAlike =
    (name : List ℕ) (club : Club) (change : Change)
    → IsSound club
    → IsSound (after change club)
    → part_of name (after change club) ≡ part_after name club change

-- In a sound club, an event that adds nothing to the member's own events leaves the member's part
-- of the club unchanged.
abbrev pub LeavesThePart : Type 0
LeavesThePart =
    (name : List ℕ) (club : Club) (event : Event)
    → IsSound club
    → own_part name club event ≡ []
    → part_of name (step club event).club ≡ part_of name club

-- In every club, the number of persons in a slot is the number from a member's own bookings plus
-- the number from all other bookings.
abbrev pub TakenIsOwnAndOthers : Type 0
TakenIsOwnAndOthers =
    (name : List ℕ) (club : Club) (slot : Slot)
    → taken_in slot club.bookings ≡ taken_in slot (part_of name club).bookings + (outside name club (Some slot)).taken
