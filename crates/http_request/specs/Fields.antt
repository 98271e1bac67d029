-- This file defines how to find the values of a head's fields by the names of the fields.
use Rattle.std.specs.{Char.to_ascii_lowercase, Prelude.{◌≡◌, ℕ, Bool, List, [], ◌∷◌, map, if◌then◌else◌}, Str.bytes_eq}
use Rattle.httparse.specs.{Spans.header_bytes, declared.spans.HeaderSpan.HeaderSpan}
use Rattle.http_request.specs.declared.fields.Values.{Values, TheVariants.{None, One, More}}

-- The two names are equal if upper and lower case are ignored (RFC 9110, section 5.1).
abbrev pub same_word : List ℕ → List ℕ → Bool
same_word a b = bytes_eq (map to_ascii_lowercase a) (map to_ascii_lowercase b)

-- The values of the fields with the given name, in the order of the fields. Each field is a pair of
-- a name and a value.
abbrev pub values_of : List ℕ → List (List ℕ × List ℕ) → List (List ℕ)
values_of name [] = []
values_of name (field ∷ fields) = if same_word field.0 name then field.1 ∷ values_of name fields else values_of name fields

-- The values of the fields with the given name. The fields are given as spans of the head.
abbrev pub values_in_head : List ℕ → List ℕ → List HeaderSpan → List (List ℕ)
values_in_head head name fields = values_of name (map (header_bytes head) fields)

-- The result distinguishes three cases: the list has no value, one value, or several values.
abbrev pub ClassifiesValues : List (List ℕ) → Values → Type 0
ClassifiesValues values None = values ≡ []
ClassifiesValues values (One value) = values ≡ value.now ∷ []
ClassifiesValues values More = (first : List ℕ) × (second : List ℕ) × (others : List (List ℕ)) × (values ≡ first ∷ second ∷ others)
