-- Defines passes. A pass is a macaroon (NDSS 2014) with first-party caveats only. A wide pass may
-- also have third-party caveats, because the formats allow them.
use Rattle.std.specs.{List.list_any, Prelude.{◌≡◌, ℕ, Bool, ◌||◌, List, [], Option, None, map, is_some}}
use Rattle.pass_mac.specs.Chain.{chain, derived_key}

pub record Plain : Type 0 where
  pub location : List ℕ
  pub identifier : List ℕ
  pub caveats : List (List ℕ)
  pub signature : List ℕ

pub record WideCaveat : Type 0 where
  pub identifier : List ℕ
  pub verifier_id : Option (List ℕ)
  pub location : Option (List ℕ)

pub record WidePass : Type 0 where
  pub location : List ℕ
  pub identifier : List ℕ
  pub caveats : List WideCaveat
  pub signature : List ℕ

-- Returns true if the caveat has a verifier id or a location, even an empty one.
abbrev pub is_third_party : WideCaveat → Bool
is_third_party caveat = is_some caveat.verifier_id || is_some caveat.location

abbrev pub has_third_party : WidePass → Bool
has_third_party wide = list_any is_third_party wide.caveats

-- Converts a first-party caveat to a caveat of a wide pass.
abbrev pub widened_caveat : List ℕ → WideCaveat
widened_caveat identifier = record { identifier = identifier; verifier_id = None; location = None }

abbrev pub as_wide_pass : Plain → WidePass
as_wide_pass pass = record {
  location = pass.location;
  identifier = pass.identifier;
  caveats = map widened_caveat pass.caveats;
  signature = pass.signature;
}

-- Converts a caveat of a wide pass to a first-party caveat. A first-party caveat is only an
-- identifier.
abbrev pub first_party_caveat : WideCaveat → List ℕ
first_party_caveat caveat = caveat.identifier

abbrev pub first_party : WidePass → Plain
first_party wide = record {
  location = wide.location;
  identifier = wide.identifier;
  caveats = map first_party_caveat wide.caveats;
  signature = wide.signature;
}

-- The pass is signed under the root. The chain of the pass's identifier and caveats starts with the
-- root's derived key. The signature of the pass is the last signature of this chain.
abbrev pub IsSigned : List ℕ → Plain → Type 0
IsSigned root pass = pass.signature ≡ chain (derived_key root) pass.identifier pass.caveats

-- Returns a new pass without caveats, signed under the root.
abbrev pub minted_pass : List ℕ → List ℕ → List ℕ → Plain
minted_pass root location identifier = record {
  location = location;
  identifier = identifier;
  caveats = [];
  signature = chain (derived_key root) identifier [];
}
