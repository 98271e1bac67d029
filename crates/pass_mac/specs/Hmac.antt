-- This file defines HMAC (RFC 2104, section 2) with SHA-256 (FIPS 180-4).
use Rattle.std.specs.Prelude.{ℕ, ◌-◌, List, ◌++◌, length, map, replicate, nat_lt, if◌then◌else◌, bit_xor}
use Rattle.sha2.specs.Sha256.{sha256}

-- The block size of SHA-256, in bytes.
abbrev pub block_len : ℕ
block_len = 64

-- The HMAC key, or its SHA-256 hash if the key is longer than a block.
abbrev pub short_key : List ℕ → List ℕ
short_key key = if nat_lt block_len (length key) then sha256 key else key

-- The HMAC key or its hash, padded with zero bytes to the length of a block.
unfoldable pub key_block : List ℕ → List ℕ
key_block key = short_key key ++ replicate (block_len - length (short_key key)) 0

-- Returns the block with each byte XORed with the pad byte.
abbrev pub masked_block : ℕ → List ℕ → List ℕ
masked_block pad block = map (λ byte. bit_xor byte pad) block

-- The HMAC of a text, as in RFC 2104: `H((K xor opad) ++ H((K xor ipad) ++ text))`.
unfoldable pub hmac : List ℕ → List ℕ → List ℕ
hmac key text =
    sha256 (masked_block 0x5c (key_block key) ++ sha256 (masked_block 0x36 (key_block key) ++ text))
