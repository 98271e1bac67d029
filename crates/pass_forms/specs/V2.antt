-- Defines V2, the binary format of libmacaroons. A field consists of a type, a length and data.
-- Fields are grouped into sections. A zero byte ends each section.
use Rattle.std.specs.List.{flat_map}
use Rattle.std.specs.Prelude.{◌≡◌, ℕ, zero, suc, ◌+◌, ◌/◌, ◌%◌, nat_lt, if◌then◌else◌, List, [], ◌∷◌, ◌++◌, length, Option, Some, None, unwrap_or}
use Rattle.pass_forms.specs.Pass.{WideCaveat, WidePass}

-- Encodes the number `n` in groups of seven bits, with one group in each byte. The lowest group
-- comes first. Each byte except the last has its top bit set. This project accepts only the
-- shortest encoding. The first argument limits the number of bytes before the last byte.
unfoldable pub groups : ℕ → ℕ → List ℕ
groups zero n = n ∷ []
groups (suc more) n = if nat_lt n 128 then n ∷ [] else (128 + n % 128) ∷ groups more (n / 128)

-- Returns the varint encoding of a number. The number itself is a large enough limit for `groups`.
unfoldable pub varint : ℕ → List ℕ
varint n = groups n n

-- The type of each field. Each type is below 128, so the varint of a type has one byte.
abbrev pub types : record { location : ℕ; identifier : ℕ; verifier_id : ℕ; signature : ℕ }
types = record { location = 1; identifier = 2; verifier_id = 4; signature = 6 }

-- Returns a field: its type, the length of its data, and the data.
abbrev pub field : ℕ → List ℕ → List ℕ
field type bytes = type ∷ varint (length bytes) ++ bytes

-- Returns a field with this data, or no bytes if the data is `None`.
abbrev pub optional_field : ℕ → Option (List ℕ) → List ℕ
optional_field type None = []
optional_field type (Some bytes) = field type bytes

-- The zero byte that ends a section.
abbrev pub end_of_section : List ℕ
end_of_section = 0 ∷ []

-- Returns the section of a caveat. The section contains the caveat's identifier. A third-party
-- caveat may also have a location before the identifier, and a verifier id after the identifier.
abbrev pub caveat_section : WideCaveat → List ℕ
caveat_section caveat =
    optional_field types.location caveat.location ++ (field types.identifier caveat.identifier
    ++ (optional_field types.verifier_id caveat.verifier_id ++ end_of_section))

-- Returns the bytes of a pass in V2. The first byte is the version number, which is 2. The other
-- bytes are the header, the caveats and the signature, in this order. The header may have no
-- location.
abbrev pub sections : Option (List ℕ) → WidePass → List ℕ
sections location wide =
    2 ∷ optional_field types.location location ++ (field types.identifier wide.identifier ++ (end_of_section
    ++ (flat_map caveat_section wide.caveats ++ (end_of_section ++ field types.signature wide.signature))))

-- `SpellsV2 bytes wide` means that `bytes` is a V2 encoding of the wide pass `wide`. This project
-- reads a missing location as an empty location.
pub record SpellsV2 (bytes : List ℕ) (wide : WidePass) : Type 0 where
  pub location : Option (List ℕ)
  pub is_location : unwrap_or location [] ≡ wide.location
  pub sections : bytes ≡ sections location wide
  pub signature : length wide.signature ≡ 32
