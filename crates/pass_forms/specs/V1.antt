-- Defines V1, the packet format of libmacaroons. A packet consists of these parts:
--
-- - the length of the packet, in four lower-case hexadecimal digits
-- - a key
-- - a space
-- - the data
-- - a line feed
--
-- The length counts all bytes of the packet. The data may contain any bytes, because the length
-- determines the end of the packet.
use Rattle.std.specs.List.{flat_map, AllByRecursion}
use Rattle.std.specs.Prelude.{◌≡◌, ℕ, ◌+◌, ◌/◌, ◌%◌, ◌^◌, ◌<◌, nat_lt, if◌then◌else◌, List, [], ◌∷◌, ◌++◌, length, Option, Some, None, IfSome, codes}
use Rattle.pass_forms.specs.Pass.{WideCaveat, WidePass}

-- Returns the lower-case hexadecimal digit of a number below 16.
abbrev pub hex_digit : ℕ → ℕ
hex_digit n = if nat_lt n 10 then 48 + n else 87 + n

-- Returns the four hexadecimal digits of a number below 2 ^ 16. The most significant digit comes
-- first.
abbrev pub four_hex_digits : ℕ → List ℕ
four_hex_digits n = hex_digit (n / 4096) ∷ hex_digit (n / 256 % 16) ∷ hex_digit (n / 16 % 16) ∷ hex_digit (n % 16) ∷ []

-- Returns the length of a packet, which includes the four digits of the length and the final line
-- feed.
abbrev pub packet_len : List ℕ → List ℕ → ℕ
packet_len key bytes = 4 + length key + length bytes + 1

-- Returns a packet with this key and data. The argument `key` ends with a space.
abbrev pub packet : List ℕ → List ℕ → List ℕ
packet key bytes = four_hex_digits (packet_len key bytes) ++ (key ++ (bytes ++ 10 ∷ []))

-- Returns a packet with this data, or no bytes if the data is `None`.
abbrev pub optional_packet : List ℕ → Option (List ℕ) → List ℕ
optional_packet key None = []
optional_packet key (Some bytes) = packet key bytes

-- Returns the packets of a caveat. The packet with the identifier comes first. A third-party caveat
-- may also have a packet with a verifier id and a packet with a location.
abbrev pub caveat_packets : WideCaveat → List ℕ
caveat_packets caveat =
    packet (codes "cid ") caveat.identifier ++ (optional_packet (codes "vid ") caveat.verifier_id
    ++ optional_packet (codes "cl ") caveat.location)

-- Returns all packets of a pass, in order.
abbrev pub packets_of : WidePass → List ℕ
packets_of wide =
    packet (codes "location ") wide.location ++ (packet (codes "identifier ") wide.identifier
    ++ (flat_map caveat_packets wide.caveats ++ packet (codes "signature ") wide.signature))

-- The length of the packet is below 2 ^ 16, so the length fits in four hexadecimal digits.
abbrev pub FitsPacket : List ℕ → List ℕ → Type 0
FitsPacket key bytes = packet_len key bytes < 2 ^ 16

-- The length of each packet of the caveat fits in four hexadecimal digits.
pub record FitsCaveat (caveat : WideCaveat) : Type 0 where
  pub identifier : FitsPacket (codes "cid ") caveat.identifier
  pub verifier_id : IfSome caveat.verifier_id (FitsPacket (codes "vid "))
  pub location : IfSome caveat.location (FitsPacket (codes "cl "))

-- The length of each packet of the wide pass fits in four hexadecimal digits. The signature has 32
-- bytes.
pub record FitsPackets (wide : WidePass) : Type 0 where
  pub location : FitsPacket (codes "location ") wide.location
  pub identifier : FitsPacket (codes "identifier ") wide.identifier
  pub caveats : AllByRecursion FitsCaveat wide.caveats
  pub signature : length wide.signature ≡ 32

-- `SpellsV1 bytes wide` means that `bytes` is the V1 encoding of the wide pass `wide`.
pub record SpellsV1 (bytes : List ℕ) (wide : WidePass) : Type 0 where
  pub packets : bytes ≡ packets_of wide
  pub fits : FitsPackets wide
