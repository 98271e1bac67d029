-- Lemmas for converting column values to numbers.
use Rattle.std.proofs.{Common.{◌≡◌, ℕ, ◌≤◌, ℤ, pos, w64, to_z, of_z, ap, ◌∙◌, arith}, lemmas.Int.to_z_pos}

pub column-pos : (z : ℤ) (n : ℕ) → n ≤ 999_999_999 → z ≡ pos n → to_z w64 (of_z w64 z) ≡ pos n
column-pos z n small e = ap (λ z. to_z w64 (of_z w64 z)) e ∙ to_z_pos w64 n (omega arith)
