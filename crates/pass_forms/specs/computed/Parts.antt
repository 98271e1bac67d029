-- Defines small functions for the parsers of passes, and the parser of a list of caveats, in V1 or
-- V2. The parameter `caveat_at` is a parser of one caveat. This parser returns the caveat and the
-- bytes after the caveat, or `None`.
use Rattle.std.specs.{Cmp.Lexicographic.pointwise, List.list_any, Prelude.{ℕ, ◌-◌, ◌==◌, ◌&&◌, nat_eq, if◌then◌else◌, List, length, take, drop, Option, Some}}
use Rattle.std.specs.Prelude.{None, ◌≡◌, Bool, zero, suc, [], ◌∷◌, map}
use Rattle.pass_forms.specs.{FieldSource.{PassField, pass_fields}, Pass.{WideCaveat, WidePass, has_third_party, is_third_party, first_party}}
use Rattle.pass_forms.specs.Pass.{first_party_caveat}

infixl 10 ◌>>=◌
abbrev pub ◌>>=◌ : {A B : Type 0} → Option A → (A → Option B) → Option B
None >>= f = None
(Some x) >>= f = f x

abbrev pub after_prefix : List ℕ → List ℕ → Option (List ℕ)
after_prefix prefix bytes =
    if pointwise nat_eq (take (length prefix) bytes) prefix then Some (drop (length prefix) bytes) else None

abbrev pub before_suffix : List ℕ → List ℕ → Option (List ℕ)
before_suffix suffix bytes =
    if pointwise nat_eq (drop (length bytes - length suffix) bytes) suffix then Some (take (length bytes - length suffix) bytes) else None

-- Returns an optional value and the bytes after the value. If the value is missing, returns `None`
-- and all of the bytes.
abbrev pub found_or_none : List ℕ → Option (List ℕ × List ℕ) → Option (List ℕ) × List ℕ
found_or_none bytes None = (None, bytes)
found_or_none bytes (Some found) = (Some found.0, found.1)

-- Returns the signature if it has 32 bytes and is at the end of the input.
abbrev pub last_signature : List ℕ × List ℕ → Option (List ℕ)
last_signature part = if length part.0 == 32 && length part.1 == 0 then Some part.0 else None

-- Returns the found caveat, the caveats that `others` parses after it, and the bytes after the last
-- caveat. If no caveat was found, returns no caveats and all of the bytes.
abbrev pub and_others : (List ℕ → List WideCaveat × List ℕ) → List ℕ → Option (WideCaveat × List ℕ) → List WideCaveat × List ℕ
and_others others bytes None = ([], bytes)
and_others others bytes (Some found) = (found.0 ∷ (others found.1).0, (others found.1).1)

-- Parses at most `n` caveats. Returns the caveats and the bytes after the last caveat.
unfoldable pub caveats_at : (List ℕ → Option (WideCaveat × List ℕ)) → ℕ → List ℕ → List WideCaveat × List ℕ
caveats_at caveat_at zero bytes = ([], bytes)
caveats_at caveat_at (suc n) bytes = and_others (caveats_at caveat_at n) bytes (caveat_at bytes)

-- Returns the parts of a caveat that a reader needs: the identifier, whether the caveat is a
-- third-party caveat, and the bytes after the caveat.
abbrev pub summary : WideCaveat × List ℕ → List ℕ × Bool × List ℕ
summary found = (found.0.identifier, is_third_party found.0, found.1)

-- The results of scanning `caveats`. `count` is the number of caveats. `third_party` is true if any
-- caveat is a third-party caveat. `rest` is the bytes after the last caveat.
pub record Counts (count : ℕ) (third_party : Bool) (rest : List ℕ) (caveats : List WideCaveat × List ℕ) : Type 0 where
  pub count_is : count ≡ length caveats.0
  pub any : third_party ≡ list_any is_third_party caveats.0
  pub after : rest ≡ caveats.1

-- Parses a pass, which consists of a header, caveats and a footer. The header contains the location
-- and the identifier. The footer contains the signature. Each caveat has at least one byte, so the
-- number of bytes limits the number of caveats.
unfoldable pub whole_at : (List ℕ → Option (List ℕ × List ℕ × List ℕ)) → (List ℕ → Option (WideCaveat × List ℕ)) → (List ℕ → Option (List ℕ)) → List ℕ →
    Option WidePass
whole_at header_at caveat_at footer_at bytes = do
  header ← header_at bytes
  signature ← footer_at (caveats_at caveat_at (length header.2) header.2).1
  Some (record {
    location = header.0;
    identifier = header.1;
    caveats = (caveats_at caveat_at (length header.2) header.2).0;
    signature = signature;
  })

-- Returns the result of scanning a wide pass: the fields, the number of caveats, and whether any
-- caveat is a third-party caveat. The fields don't include the verifier ids and locations of
-- caveats.
abbrev pub scan_summary : WidePass → List PassField × ℕ × Bool
scan_summary wide = (pass_fields (first_party wide), length wide.caveats, has_third_party wide)

-- Parses at most `count` caveats and returns their identifiers.
abbrev pub identifiers_at : (List ℕ → Option (WideCaveat × List ℕ)) → ℕ → List ℕ → List (List ℕ)
identifiers_at caveat_at count bytes = map first_party_caveat (caveats_at caveat_at count bytes).0
