-- This file defines the chain of signatures of a macaroon with first-party caveats, as libmacaroons
-- computes it.
use Rattle.std.specs.Prelude.{◌≡◌, ℕ, List, [], ◌∷◌, ◌++◌, fold, codes}
use Rattle.pass_mac.specs.Hmac.{hmac}

-- The HMAC key with which libmacaroons derives a key from a root.
abbrev pub derivation_key : List ℕ
derivation_key = codes "macaroons-key-generator"

-- The key that is derived from a root.
unfoldable pub derived_key : List ℕ → List ℕ
derived_key root = hmac derivation_key root

-- Adds caveats to a chain with this signature, and returns the new signature. The key of each
-- caveat's HMAC is the previous signature.
abbrev pub extended_signature : List ℕ → List (List ℕ) → List ℕ
extended_signature signature caveats = fold hmac signature caveats

-- Returns the signature of a pass with this identifier and these caveats under a derived key.
abbrev pub chain : List ℕ → List ℕ → List (List ℕ) → List ℕ
chain key identifier caveats = extended_signature (hmac key identifier) caveats

-- The signature of a chain with one more caveat is the HMAC of this caveat, with the old signature
-- as the key.
abbrev pub GrowsByOneHmac : Type 0
GrowsByOneHmac = (key identifier : List ℕ) (caveats : List (List ℕ)) (caveat : List ℕ) →
    chain key identifier (caveats ++ caveat ∷ []) ≡ hmac (chain key identifier caveats) caveat

-- Caveats can be added to a chain without the derived key. Adding them to the chain's signature
-- gives the signature of the chain with all caveats.
abbrev pub NarrowsWithoutTheKey : Type 0
NarrowsWithoutTheKey = (key identifier signature : List ℕ) (caveats more : List (List ℕ)) →
    signature ≡ chain key identifier caveats → extended_signature signature more ≡ chain key identifier (caveats ++ more)
