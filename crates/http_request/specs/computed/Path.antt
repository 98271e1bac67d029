-- This file computes the values that the parts of a path represent, and the place that a target
-- names.
use Rattle.std.specs.{Prelude.{ℕ, ◌&&◌, List, nat_le, if◌then◌else◌, Option, Some, None, option_and_then, ◌==◌, [], ◌∷◌, codes, option_map}, Str.bytes_eq}
use Rattle.club_rows.specs.Rows.{booking_number_limit}
use Rattle.club_values.specs.{computed.TextOf.{name_of_text, day_of_text, hour_of_text, decimal_of_text}, declared.slot.Slot.Slot}
use Rattle.http_request.specs.{Path.segments, declared.path.Place.{Place, TheVariants.{SlotPlace, BookingPlace, AccountPlace}}}

infixl 10 ◌>>=◌
abbrev pub ◌>>=◌ : {A B : Type 0} → Option A → (A → Option B) → Option B
o >>= f = option_and_then f o

-- The given number if it is from 1 to the largest booking number, else `None`.
abbrev pub within_limits : ℕ → Option ℕ
within_limits n = if nat_le 1 n && nat_le n booking_number_limit then Some n else None

-- The booking number that a text represents: at most nine decimal digits without leading zeros.
unfoldable pub number_of_text : List ℕ → Option ℕ
number_of_text text = decimal_of_text text >>= within_limits

unfoldable pub slot_of_parts : List ℕ → List ℕ → List ℕ → Option Slot
slot_of_parts facility day hour = do
  facility' ← name_of_text facility
  day' ← day_of_text day
  hour' ← hour_of_text hour
  Some (record { facility = facility'; day = day'; hour = hour' })

-- The place of a path that begins with a slot: the slot itself, or a booking in the slot. The given
-- list has the parts of the path after the slot's hour.
abbrev pub at_slot : Slot → List (List ℕ) → Option Place
at_slot slot [] = Some (SlotPlace slot)
at_slot slot (word ∷ []) = None
at_slot slot (word ∷ number ∷ []) =
    if bytes_eq word (codes "bookings") then option_map (λ n. BookingPlace slot n) (number_of_text number) else None
at_slot slot (word ∷ number ∷ other ∷ parts) = None

abbrev pub under_slots : List (List ℕ) → Option Place
under_slots [] = None
under_slots (facility ∷ []) = None
under_slots (facility ∷ day ∷ []) = None
under_slots (facility ∷ day ∷ hour ∷ parts) = slot_of_parts facility day hour >>= λ slot. at_slot slot parts

abbrev pub account_at : List ℕ → List (List ℕ) → Option Place
account_at word [] = if bytes_eq word (codes "account") then Some AccountPlace else None
account_at word (part ∷ parts) = None

abbrev pub under_root : List (List ℕ) → Option Place
under_root [] = None
under_root (word ∷ parts) = if bytes_eq word (codes "slots") then under_slots parts else account_at word parts

-- The place that a target names.
abbrev pub place_of : List ℕ → Option Place
place_of [] = None
place_of (byte ∷ path) = if byte == 47 then under_root (segments path) else None
