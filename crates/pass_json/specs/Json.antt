-- Defines the JSON form of a pass. A pass is one object, in the style of libmacaroons' V2 JSON.
-- This project chose which members are optional. This project also chose to allow both base64
-- alphabets under a base64 name such as `i64`.
use Rattle.std.specs.Prelude.{◌≡◌, ◌⊎◌, ℕ, List, [], ◌∷◌, codes, length, Option, None, Some, unwrap_or, IsSome, IsUtf8, Contains}
use Rattle.serde_json.specs.{Data.{Data, number, string, array, unsigned, Items, no_items, item}, Find.get, Read.read}
use Rattle.pass_forms.specs.{Envelope.IsBase64, Pass.{WideCaveat, WidePass}}

-- `IsField plain base64 value (Some bytes)` means that the object `value` has a field with the
-- bytes `bytes`. The field is either a UTF-8 string under the name `plain`, or base64 under the
-- name `base64`. The object must not have both names. `IsField plain base64 value None` means that
-- the object has neither name.
abbrev pub IsField : List ℕ → List ℕ → Data → Option (List ℕ) → Type 0
IsField plain base64 value None = (get plain value ≡ None) × (get base64 value ≡ None)
IsField plain base64 value (Some bytes) =
    ((get plain value ≡ Some (string bytes)) × (get base64 value ≡ None))
    ⊎ ((get plain value ≡ None) × (text : List ℕ) × (get base64 value ≡ Some (string text)) × IsBase64 text bytes)

-- Every name in the object is in the list `names`.
abbrev pub HasOnly : List (List ℕ) → Data → Type 0
HasOnly names value = (name : List ℕ) → IsSome (get name value) → Contains names name

-- The allowed names in the object of a pass:
--
-- - `v` for the version,
-- - `l` and `l64` for the location,
-- - `i` and `i64` for the identifier,
-- - `c` for the caveats,
-- - `s` and `s64` for the signature.
abbrev pub pass_names : List (List ℕ)
pass_names =
    codes "v" ∷ codes "l" ∷ codes "l64" ∷ codes "i" ∷ codes "i64" ∷ codes "c" ∷ codes "s" ∷ codes "s64" ∷ []

-- The allowed names in the object of a caveat:
--
-- - `i` and `i64` for the identifier,
-- - `l` and `l64` for the location,
-- - `v` and `v64` for the verifier id.
abbrev pub caveat_names : List (List ℕ)
caveat_names = codes "i" ∷ codes "i64" ∷ codes "l" ∷ codes "l64" ∷ codes "v" ∷ codes "v64" ∷ []

-- The JSON value is the object of the caveat. The identifier is required. In a caveat's object, the
-- name `v` means the verifier id. In a pass's object, the name `v` means the version.
pub record IsCaveatObject (value : Data) (caveat : WideCaveat) : Type 0 where
  pub names : HasOnly caveat_names value
  pub identifier : IsField (codes "i") (codes "i64") value (Some caveat.identifier)
  pub verifier_id : IsField (codes "v") (codes "v64") value caveat.verifier_id
  pub location : IsField (codes "l") (codes "l64") value caveat.location

-- The items are the objects of the caveats, in the same order.
abbrev pub AreCaveats : Items → List WideCaveat → Type 0
AreCaveats no_items [] = Unit {0}
AreCaveats (item value values) (caveat ∷ caveats) = IsCaveatObject value caveat × AreCaveats values caveats
AreCaveats values caveats = ⊥

-- The JSON value is the list of the caveats. If the pass has no caveats, the list may be left out.
abbrev pub IsCaveatList : Option Data → List WideCaveat → Type 0
IsCaveatList None caveats = caveats ≡ []
IsCaveatList (Some value) caveats = (items : Items) × (value ≡ array items) × AreCaveats items caveats

-- The version is the whole number 2, or the version is left out.
abbrev pub IsVersion : Option Data → Type 0
IsVersion None = Unit {0}
IsVersion (Some value) = value ≡ number (unsigned 2)

-- The JSON value is the object of the wide pass. The identifier and the signature are required.
pub record IsPass (value : Data) (wide : WidePass) : Type 0 where
  pub names : HasOnly pass_names value
  pub version : IsVersion (get (codes "v") value)
  -- If the object has no location, the location of the pass is empty.
  pub location : Option (List ℕ)
  pub is_location : IsField (codes "l") (codes "l64") value location
  pub location_is : wide.location ≡ unwrap_or location []
  pub identifier : IsField (codes "i") (codes "i64") value (Some wide.identifier)
  pub caveats : IsCaveatList (get (codes "c") value) wide.caveats
  pub signature : IsField (codes "s") (codes "s64") value (Some wide.signature)
  pub signature_len : length wide.signature ≡ 32

-- `SpellsJson bytes wide` means that `serde_json` parses `bytes` as the object of the wide pass
-- `wide`.
pub record SpellsJson (bytes : List ℕ) (wide : WidePass) : Type 0 where
  pub value : Data
  pub utf8 : IsUtf8 bytes
  pub is_read : read bytes ≡ Some value
  pub is_pass : IsPass value wide
