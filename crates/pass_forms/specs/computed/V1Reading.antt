-- Defines a parser of V1. Most functions parse a value at the start of the bytes, and return the
-- value and the remaining bytes.
use Rattle.std.specs.Prelude.{ℕ, ◌+◌, ◌-◌, ◌*◌, nat_le, ◌&&◌, if◌then◌else◌, List, [], ◌∷◌, length, take, drop, codes, Option, Some, None, Result}
use Rattle.pass_forms.specs.{Pass.{Plain, WideCaveat, WidePass}, computed.Parts.{whole_at, ◌>>=◌, after_prefix, before_suffix, found_or_none, last_signature}}
use Rattle.pass_forms.specs.{computed.Reading.reading_of, declared.fault.FormFault.FormFault}

abbrev pub digit_value : ℕ → Option ℕ
digit_value byte =
    if nat_le 48 byte && nat_le byte 57 then Some (byte - 48)
    else (if nat_le 97 byte && nat_le byte 102 then Some (byte - 87) else None)

-- Returns the number that the first four bytes encode in hexadecimal digits.
abbrev pub len_at : List ℕ → Option ℕ
len_at (a ∷ b ∷ c ∷ d ∷ rest) = do
  x ← digit_value a
  y ← digit_value b
  z ← digit_value c
  w ← digit_value d
  Some (x * 4096 + y * 256 + z * 16 + w)
len_at _ = None

-- Parses a packet with the given key. Returns the packet's data and the bytes after the packet.
unfoldable pub packet_at : List ℕ → List ℕ → Option (List ℕ × List ℕ)
packet_at key bytes = do
  rest ← if nat_le 4 (length bytes) then Some (drop 4 bytes) else None
  body ← after_prefix key rest
  len ← len_at bytes
  content ← if nat_le (4 + length key) len && nat_le len (length bytes) then Some (take (len - (4 + length key)) body) else None
  text ← before_suffix (10 ∷ []) content
  Some (text, drop len bytes)

-- Parses an optional packet. If the packet is missing, returns `None` and all of the bytes.
abbrev pub optional_at : List ℕ → List ℕ → Option (List ℕ) × List ℕ
optional_at key bytes = found_or_none bytes (packet_at key bytes)

unfoldable pub caveat_at : List ℕ → Option (WideCaveat × List ℕ)
caveat_at bytes = do
  identifier ← packet_at (codes "cid ") bytes
  let verifier_id = optional_at (codes "vid ") identifier.1 in
      let location = optional_at (codes "cl ") verifier_id.1 in
      Some (record { identifier = identifier.0; verifier_id = verifier_id.0; location = location.0 }, location.1)

-- Parses the signature's packet, which must be the last packet. Returns the signature.
unfoldable pub signature_at : List ℕ → Option (List ℕ)
signature_at bytes = packet_at (codes "signature ") bytes >>= last_signature

-- Parses the packets of the location and the identifier. Returns the location, the identifier, and
-- the bytes after both packets.
unfoldable pub header_at : List ℕ → Option (List ℕ × List ℕ × List ℕ)
header_at bytes = do
  location ← packet_at (codes "location ") bytes
  identifier ← packet_at (codes "identifier ") location.1
  Some (location.0, identifier.0, identifier.1)

-- Parses the packets of a wide pass.
abbrev pub wide_at : List ℕ → Option WidePass
wide_at bytes = whole_at header_at caveat_at signature_at bytes

-- Returns the result of reading bytes in V1.
unfoldable pub reading_v1 : List ℕ → Result Plain FormFault
reading_v1 bytes = reading_of (length bytes) (wide_at bytes)
