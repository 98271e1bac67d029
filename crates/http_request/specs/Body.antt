-- This file defines the number of guests in the body of a request.
use Rattle.std.specs.Prelude.{ℕ, ◌&&◌, Bool, true, false, List, codes, nat_le, if◌then◌else◌, Option, Some, None, option_and_then, option_map, unwrap_or}
use Rattle.std.specs.Str.{bytes_eq, is_utf8}
use Rattle.club_values.specs.Moment.{guests_limit}
use Rattle.serde_json.specs.{Data.{Data, Members, no_members, member}, Find.{get, as_number, as_object, as_u64}, Read.read}

-- Every member of the object has the given name.
abbrev pub only_named : List ℕ → Members → Bool
only_named name no_members = true
only_named name (member key value members) = bytes_eq key name && only_named name members

abbrev pub has_only_name : List ℕ → Data → Bool
has_only_name name value = unwrap_or (option_map (only_named name) (as_object value)) false

-- The value as a number. The result is `None` if the value is negative or isn't a whole number.
abbrev pub whole_number : Option Data → Option ℕ
whole_number value = option_and_then as_u64 (option_and_then as_number value)

-- The number of guests. The number is `None` if it is over the limit for a booking.
abbrev pub few_guests : Option ℕ → Option ℕ
few_guests None = None
few_guests (Some n) = if nat_le n guests_limit then Some n else None

-- The number of guests in an object whose only name is `guests`. The number of guests must be a
-- whole number within the limit for a booking.
unfoldable pub guests_of_value : Data → Option ℕ
guests_of_value value = if has_only_name (codes "guests") value then few_guests (whole_number (get (codes "guests") value)) else None

-- The value that serde_json parses from the bytes (RFC 8259).
unfoldable pub json_value_of : List ℕ → Option Data
json_value_of bytes = if is_utf8 bytes then read bytes else None

-- The number of guests in a body.
unfoldable pub guests_in : List ℕ → Option ℕ
guests_in body = option_and_then guests_of_value (json_value_of body)
