-- Defines the fields of a pass and their order. A pass has a location, an identifier, caveats and a
-- signature.
use Rattle.std.specs.Prelude.{◌≡◌, ℕ, List, [], ◌∷◌, ◌++◌, map, fold, replicate, Option, None, Some, Result, Ok, Err}
use Rattle.pass_mac.specs.Chain.{extended_signature}
use Rattle.pass_forms.specs.{Pass.Plain, declared.{fault.FormFault.FormFault, field_source.Field.Field}}
use Rattle.pass_forms.specs.declared.field_source.Field.TheVariants.{Location, Identifier, Caveat, Signature}

pub data PassField : Type 0 where
  location_field : (bytes : List ℕ) → PassField
  identifier_field : (bytes : List ℕ) → PassField
  caveat_field : (bytes : List ℕ) → PassField
  signature_field : (bytes : List ℕ) → PassField

-- Returns all fields of a pass, in order. The location may be empty.
abbrev pub pass_fields : Plain → List PassField
pass_fields pass =
    location_field pass.location ∷ identifier_field pass.identifier
    ∷ (map caveat_field pass.caveats ++ signature_field pass.signature ∷ [])

-- Returns a list with the field, or an empty list if the field is `None`.
abbrev pub if_left : {A : Type 0} → (A → PassField) → Option A → List PassField
if_left field None = []
if_left field (Some bytes) = field bytes ∷ []

-- Returns the fields that a source hasn't returned yet. Each of the arguments `location`,
-- `identifier` and `signature` is `None` if the source has already returned this field. The
-- function `bytes` returns the bytes of a location or an identifier.
abbrev pub those_left : {A : Type 0} → (A → List ℕ) → Option A → Option A → List (List ℕ) → Option (List ℕ) → List PassField
those_left bytes location identifier caveats signature =
    if_left (λ l. location_field (bytes l)) location ++ (if_left (λ i. identifier_field (bytes i)) identifier
    ++ (map caveat_field caveats ++ if_left signature_field signature))

-- Converts the result of reading a pass to the result of `Fields::open`. A fault stays unchanged.
-- The function `fields` returns the fields of a successful result.
abbrev pub opening_by : {A : Type 0} → (A → List PassField) → Result A FormFault → Result (List PassField) FormFault
opening_by fields (Ok read) = Ok (fields read)
opening_by fields (Err fault) = Err fault

abbrev pub opening_of : Result Plain FormFault → Result (List PassField) FormFault
opening_of reading = opening_by pass_fields reading

-- If the result of `Fields::open` is a fault, `Reads` allows this fault. If the result is a list of
-- fields, `Reads` allows a pass with these fields.
abbrev pub IsOpening : (Result Plain FormFault → Type 0) → Result (List PassField) FormFault → Type 0
IsOpening Reads (Ok fields) = (pass : Plain) × Reads (Ok pass) × (fields ≡ pass_fields pass)
IsOpening Reads (Err fault) = Reads (Err fault)

-- Converts a field in the code to a field in contracts.
abbrev pub as_field : Field → PassField
as_field (Location bytes) = location_field bytes.now
as_field (Identifier bytes) = identifier_field bytes.now
as_field (Caveat bytes) = caveat_field bytes.now
as_field (Signature bytes) = signature_field bytes

-- The list of fields begins with caveats and a signature. The signature equals the signature of the
-- chain after these caveats are added (Macaroons, NDSS 2014).
pub record AreSignedBy (chain : List ℕ) (fields : List PassField) : Type 0 where
  pub caveats : List (List ℕ)
  pub rest : List PassField
  pub place : fields ≡ map caveat_field caveats ++ signature_field (extended_signature chain caveats) ∷ rest

-- Sets one field of a pass. If the field is a caveat, the caveat is appended to the pass's caveats.
abbrev pub with_field : Plain → PassField → Plain
with_field pass (location_field bytes) = record pass { location = bytes }
with_field pass (identifier_field bytes) = record pass { identifier = bytes }
with_field pass (caveat_field bytes) = record pass { caveats = pass.caveats ++ bytes ∷ [] }
with_field pass (signature_field bytes) = record pass { signature = bytes }

abbrev pub with_fields : Plain → List PassField → Plain
with_fields pass fields = fold with_field pass fields

-- A pass with an empty location, an empty identifier and no caveats. The signature is 32 zero
-- bytes.
abbrev pub no_fields : Plain
no_fields = record { location = []; identifier = []; caveats = []; signature = replicate 32 0 }
