-- The names of members, keys and facilities, and byte strings of a limited length, stored in a
-- buffer of fixed length.
use Rattle.std.{proofs.{Common.{sym, ap, ◌∙◌}, lemmas.List.length-take-le}, specs.{Int.is_in_range, List.AllPass, Prelude.{◌≡◌, ℕ, ◌-◌, ◌≤◌, List, ◌++◌}}}
use Rattle.std.specs.Prelude.{length, take, replicate, ◌≢◌, ◌==◌, ◌||◌, ◌<◌, Bool, slice_index}
use Rattle.club_values.specs.declared.inline_bytes.InlineBytes.TheInside.{Inside}

module _ {n : ℕ} where
  abbrev pub stored_bytes : Inside n → List ℕ
  stored_bytes a = take a.len a.buffer

-- The bytes, followed by zeros up to a total length of `n`.
abbrev pub with_padding : ℕ → List ℕ → List ℕ
with_padding n bytes = bytes ++ replicate (n - length bytes) 0

abbrev pub stored_inline : (n : ℕ) → List ℕ → Inside n
stored_inline n bytes = record { buffer = with_padding n bytes; len = length bytes }

module _ {n : ℕ} where
  pub record IsPadded (a : Inside n) : Type 0 where
    pub short : a.len ≤ n
    pub within : a.len ≤ length a.buffer
    pub spare : a.buffer ≡ with_padding n (stored_bytes a)

  pub stored_inline-stored_bytes : (a : Inside n) → IsPadded a → stored_inline n (stored_bytes a) ≡ a
  stored_inline-stored_bytes a h =
      let len : length (stored_bytes a) ≡ a.len = length-take-le a.len a.buffer h.within in
      let made : List ℕ → ℕ → Inside n = λ buffer len. record { buffer = buffer; len = len } in
      ap (λ buffer. made buffer (length (stored_bytes a))) (sym h.spare) ∙ ap (λ len. made a.buffer len) len

-- The byte is `a` to `z`, `0` to `9`, or a hyphen.
abbrev pub is_name_byte : ℕ → Bool
is_name_byte byte = is_in_range 97 122 byte || is_in_range 48 57 byte || byte == 45

-- The maximum length of a name, in bytes.
abbrev pub max_name_len : ℕ
max_name_len = 24

-- The text is a valid name. A name has 1 to 24 bytes, each a letter `a` to `z`, a digit or a
-- hyphen. The first byte isn't a hyphen.
pub record IsName (bytes : List ℕ) : Type 0 where
  pub nonempty : 0 < length bytes
  pub short : length bytes ≤ max_name_len
  pub letters : AllPass is_name_byte bytes
  pub first : slice_index bytes 0 ≢ 45
