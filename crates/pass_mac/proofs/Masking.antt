-- Lemmas about replacing the elements of a list one after another.
use Rattle.std.proofs.Common.{◌≡◌, ℕ, zero, suc, ◌+◌, ◌<◌, List, [], ◌∷◌, ◌++◌, length, map, take, drop, get_or, set, refl, ap, arith}

pub map_in_place : (f : ℕ → ℕ) (xs : List ℕ) (i : ℕ) → i < length xs →
    set (map f (take i xs) ++ drop i xs) i (f (get_or (map f (take i xs) ++ drop i xs) i 0)) ≡ map f (take (i + 1) xs) ++ drop (i + 1) xs
map_in_place f [] i h = absurd (omega arith)
map_in_place f (x ∷ xs) zero h = refl
map_in_place f (x ∷ xs) (suc i) h =
    let shifted : suc i + 1 ≡ suc (i + 1) = omega arith in
    rw shifted (ap (λ (ys : List ℕ). f x ∷ ys) (map_in_place f xs i (omega arith)))
