-- This file defines the parts of a path, and the paths of the desk:
--
-- - `/slots/FACILITY/DAY/HOUR`
-- - `/slots/FACILITY/DAY/HOUR/bookings/NUMBER`
-- - `/account`
use Rattle.std.specs.{Borrow.Bor, Fmt.decimal, Prelude.{◌≡◌, ℕ, ◌==◌, List, [], ◌∷◌, ◌++◌, if◌then◌else◌, Option, Some, None, codes}}
use Rattle.club_rows.specs.Rows.{IsBookingNumber, IsSlot}
use Rattle.club_values.specs.{Moment.day_text, Number.two_digits, declared.slot.Slot.Slot}
use Rattle.http_request.specs.declared.path.Place.{Place, TheVariants.{SlotPlace, BookingPlace, AccountPlace}}

-- The given parts of a path, with the bytes `front` added at the start of the first part. If no
-- parts are given, `front` is the only part.
abbrev pub with_front : List ℕ → List (List ℕ) → List (List ℕ)
with_front front [] = front ∷ []
with_front front (part ∷ parts) = (front ++ part) ∷ parts

-- The parts of a path between its slashes (RFC 3986, section 3.3).
abbrev pub segments : List ℕ → List (List ℕ)
segments [] = [] ∷ []
segments (byte ∷ path) = if byte == 47 then [] ∷ segments path else with_front (byte ∷ []) (segments path)

-- The parts of the rest of a path. If there is no rest, the list of parts is empty.
abbrev pub following_parts : Option (Bor (List ℕ)) → List (List ℕ)
following_parts None = []
following_parts (Some rest) = segments rest.now

-- The first part of the path is `part`. If a slash follows the first part, `rest` is the text after
-- that slash. If no slash follows the first part, `rest` is `None`.
abbrev pub BeginsWith : List ℕ → List ℕ → Option (Bor (List ℕ)) → Type 0
BeginsWith path part rest = segments path ≡ part ∷ following_parts rest

-- The parts of a slot's path, followed by the given parts.
abbrev pub slot_parts : Slot → List (List ℕ) → List (List ℕ)
slot_parts slot parts = codes "slots" ∷ slot.facility ∷ day_text slot.day ∷ two_digits slot.hour ∷ parts

-- The parts of a place's path.
abbrev pub place_parts : Place → List (List ℕ)
place_parts (SlotPlace slot) = slot_parts slot []
place_parts (BookingPlace slot number) = slot_parts slot (codes "bookings" ∷ decimal number ∷ [])
place_parts AccountPlace = codes "account" ∷ []

-- All values of the place are within their limits.
abbrev pub HasRealValues : Place → Type 0
HasRealValues (SlotPlace slot) = IsSlot slot
HasRealValues (BookingPlace slot number) = IsSlot slot × IsBookingNumber number
HasRealValues AccountPlace = Unit {0}

-- The target is the path of the place. A path begins with a slash, and slashes separate its parts.
pub record IsPlace (target : List ℕ) (place : Place) : Type 0 where
  pub path : List ℕ
  pub slash : target ≡ 47 ∷ path
  pub parts : segments path ≡ place_parts place
  pub real : HasRealValues place

-- The place that the target names. The place is `None` if the target names no place.
abbrev pub IsPlaceOf : List ℕ → Option Place → Type 0
IsPlaceOf target None = (place : Place) → ¬ IsPlace target place
IsPlaceOf target (Some place) = IsPlace target place
