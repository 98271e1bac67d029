-- Defines a parser of V2. Most functions parse a value at the start of the bytes, and return the
-- value and the remaining bytes.
use Rattle.std.specs.Prelude.{ℕ, ◌+◌, ◌-◌, ◌*◌, ◌/◌, nat_lt, nat_le, ◌==◌, if◌then◌else◌, List, [], ◌∷◌, length, take, drop, Option, Some, None, Result}
use Rattle.std.specs.Prelude.{unwrap_or}
use Rattle.pass_forms.specs.{Pass.{Plain, WideCaveat, WidePass}, V2.{end_of_section, types}, computed.Parts.{whole_at, ◌>>=◌, after_prefix, found_or_none}}
use Rattle.pass_forms.specs.{computed.{Parts.last_signature, Reading.reading_of}, declared.fault.FormFault.FormFault}

-- Combines the seven low bits of a number with its higher bits. The result is `None` if the higher
-- bits are zero or the number is above `most`.
abbrev pub above : ℕ → ℕ → Option (ℕ × List ℕ) → Option (ℕ × List ℕ)
above most low None = None
above most low (Some high) =
    if high.0 == 0 then None
    else (if nat_lt (most - high.0 * 128) low then None else Some (high.0 * 128 + low, high.1))

-- Parses a varint whose value is at most `most`.
unfoldable pub varint_up_to : ℕ → List ℕ → Option (ℕ × List ℕ)
varint_up_to most [] = None
varint_up_to most (byte ∷ rest) =
    if nat_lt most byte then None
    else if nat_lt byte 128 then Some (byte, rest)
    else (if nat_lt byte 256 then above most (byte - 128) (varint_up_to (most / 128) rest) else None)

-- Returns the first `len.0` bytes of the list `len.1`, and the bytes after them. Returns `None` if
-- the list has fewer bytes.
abbrev pub counted_at : ℕ × List ℕ → Option (List ℕ × List ℕ)
counted_at len = if nat_le len.0 (length len.1) then Some (take len.0 len.1, drop len.0 len.1) else None

unfoldable pub field_at : ℕ → List ℕ → Option (List ℕ × List ℕ)
field_at type bytes = do
  rest ← after_prefix (type ∷ []) bytes
  len ← varint_up_to (length rest) rest
  counted_at len

abbrev pub optional_at : ℕ → List ℕ → Option (List ℕ) × List ℕ
optional_at type bytes = found_or_none bytes (field_at type bytes)

unfoldable pub caveat_at : List ℕ → Option (WideCaveat × List ℕ)
caveat_at bytes = do
  identifier ← field_at types.identifier (optional_at types.location bytes).1
  rest ← after_prefix end_of_section (optional_at types.verifier_id identifier.1).1
  Some (
    record {
      identifier = identifier.0;
      verifier_id = (optional_at types.verifier_id identifier.1).0;
      location = (optional_at types.location bytes).0;
    },
    rest,
  )

-- Parses the header. Returns the location, the identifier, and the bytes after the header.
unfoldable pub header_at : List ℕ → Option (List ℕ × List ℕ × List ℕ)
header_at bytes = do
  first ← after_prefix (2 ∷ []) bytes
  identifier ← field_at types.identifier (optional_at types.location first).1
  rest ← after_prefix end_of_section identifier.1
  Some (unwrap_or (optional_at types.location first).0 [], identifier.0, rest)

-- Parses the footer and returns the signature. The footer consists of a zero byte, which ends the
-- caveats, and the signature's field.
unfoldable pub footer_at : List ℕ → Option (List ℕ)
footer_at bytes = do
  rest ← after_prefix end_of_section bytes
  signature ← field_at types.signature rest
  last_signature signature

-- Parses the sections of a wide pass.
abbrev pub wide_at : List ℕ → Option WidePass
wide_at bytes = whole_at header_at caveat_at footer_at bytes

-- Returns the result of reading bytes in V2.
unfoldable pub reading_v2 : List ℕ → Result Plain FormFault
reading_v2 bytes = reading_of (length bytes) (wide_at bytes)
