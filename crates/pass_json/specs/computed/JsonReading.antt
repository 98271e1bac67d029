-- Defines a parser of the JSON form. Most functions parse one part of an object.
use Rattle.std.specs.{List.list_any, Prelude.{◌≡◌, ℕ, ◌==◌, ◌&&◌, if◌then◌else◌, Bool, true, false, List, [], ◌∷◌, codes, length, map, Option, None, Some}}
use Rattle.std.specs.{Prelude.{option_map, unwrap_or, Result}, Str.{bytes_eq, is_utf8}}
use Rattle.pass_forms.specs.{Pass.{Plain, WideCaveat, WidePass, is_third_party, first_party_caveat}, computed.{Parts.◌>>=◌, Reading.{from_base64, reading_of}}}
use Rattle.pass_forms.specs.declared.fault.FormFault.{FormFault, TheVariants.{Malformed, Memory}}
use Rattle.pass_json.specs.Json.{caveat_names, pass_names}
use Rattle.serde_json.specs.{Data.{Data, Items, no_items, item, Members, no_members, member}, Find.{get, as_array, as_number, as_object, as_str, as_u64}}
use Rattle.serde_json.specs.Read.{read}

-- Decodes a base64 string. Returns `None` if the JSON value isn't a string or the string isn't
-- base64.
abbrev pub decoded_text : Data → Option (List ℕ)
decoded_text value = as_str value >>= from_base64

-- Returns the bytes of a field. The first argument is the value under the plain name, such as `i`.
-- The second argument is the value under the base64 name, such as `i64`. `Some None` means that the
-- object has neither name. `None` means that the field is malformed.
abbrev pub field_bytes : Option Data → Option Data → Option (Option (List ℕ))
field_bytes None None = Some None
field_bytes (Some value) None = option_map (λ bytes. Some bytes) (as_str value)
field_bytes None (Some value) = option_map (λ bytes. Some bytes) (decoded_text value)
field_bytes (Some value) (Some other) = None

unfoldable pub field_from : List ℕ → List ℕ → Data → Option (Option (List ℕ))
field_from plain base64 value = field_bytes (get plain value) (get base64 value)

-- Returns the bytes of a required field, or `None` if the field is missing or malformed.
abbrev pub must_have : Option (Option (List ℕ)) → Option (List ℕ)
must_have None = None
must_have (Some bytes) = bytes

abbrev pub only_among : List (List ℕ) → Members → Bool
only_among names no_members = true
only_among names (member name value members) = list_any (bytes_eq name) names && only_among names members

unfoldable pub has_only_names : List (List ℕ) → Data → Bool
has_only_names names value = unwrap_or (option_map (only_among names) (as_object value)) false

unfoldable pub caveat_from : Data → Option WideCaveat
caveat_from value = do
  names ← if has_only_names caveat_names value then Some value else None
  identifier ← must_have (field_from (codes "i") (codes "i64") value)
  verifier_id ← field_from (codes "v") (codes "v64") value
  location ← field_from (codes "l") (codes "l64") value
  Some (record { identifier = identifier; verifier_id = verifier_id; location = location })

unfoldable pub caveats_of : Items → Option (List WideCaveat)
caveats_of no_items = Some []
caveats_of (item value values) = do
  caveat ← caveat_from value
  caveats ← caveats_of values
  Some (caveat ∷ caveats)

abbrev pub caveat_list : Option Data → Option (List WideCaveat)
caveat_list None = Some []
caveat_list (Some value) = as_array value >>= caveats_of

abbrev pub is_version : Option Data → Bool
is_version None = true
is_version (Some value) = unwrap_or (option_map (λ n. n == 2) (as_number value >>= as_u64)) false

-- Returns the bytes if the list has exactly `len` bytes, or `None` otherwise.
abbrev pub of_length : ℕ → List ℕ → Option (List ℕ)
of_length len bytes = if length bytes == len then Some bytes else None

abbrev pub signature_from : Data → Option (List ℕ)
signature_from value = must_have (field_from (codes "s") (codes "s64") value) >>= of_length 32

unfoldable pub pass_from : Data → Option WidePass
pass_from value = do
  names ← if has_only_names pass_names value && is_version (get (codes "v") value) then Some value else None
  location ← field_from (codes "l") (codes "l64") value
  identifier ← must_have (field_from (codes "i") (codes "i64") value)
  caveats ← caveat_list (get (codes "c") value)
  signature ← signature_from value
  Some (record {
    location = unwrap_or location [];
    identifier = identifier;
    caveats = caveats;
    signature = signature;
  })

-- Parses bytes as a JSON value. Returns `None` if the bytes aren't UTF-8 or aren't JSON.
unfoldable pub value_of : List ℕ → Option Data
value_of bytes = if is_utf8 bytes then read bytes else None

-- Parses bytes as the JSON object of a wide pass.
unfoldable pub wide_json : List ℕ → Option WidePass
wide_json bytes = value_of bytes >>= pass_from

-- Reads a pass from JSON bytes. Returns the pass, or the first fault that applies.
unfoldable pub reading_json : List ℕ → Result Plain FormFault
reading_json bytes = reading_of (length bytes) (wide_json bytes)

-- Returns the parts of a caveat that a reader needs: the identifier, and whether the caveat is a
-- third-party caveat.
abbrev pub kept_caveat : WideCaveat → List ℕ × Bool
kept_caveat caveat = (first_party_caveat caveat, is_third_party caveat)

abbrev pub kept_caveats : List WideCaveat → List (List ℕ) × Bool
kept_caveats caveats = (map first_party_caveat caveats, list_any is_third_party caveats)

-- The faults that a parser of one part of the JSON may return. `found` is the parsed part, or
-- `None` if the part is malformed. `Malformed` is possible only if the part is malformed. `Memory`
-- is always possible.
abbrev pub RefusesPart : {A : Type 0} → Option A → FormFault → Type 0
RefusesPart found Malformed = found ≡ None
RefusesPart found Memory = Unit {0}
RefusesPart found other = ⊥
