-- Lemmas about splitting and overwriting bytes, and about writing fields and caveats to an object.
use Rattle.std.proofs.Common.{◌≡◌, ℕ, ◌+◌, ◌≤◌, List, [], ◌∷◌, ◌++◌, length, take, drop, refl, ap, suc, ◌∙◌, arith, ◌<◌, set, map, get_or, Vec}
use Rattle.std.proofs.{Math.Seq.take-suc-set, lemmas.{Grind.{common_steps, take_at_read}, List.{take_at, drop_at, length-take-le, take-append-le}}}
use Rattle.std.{proofs.lemmas.List.{drop-append-le, take-take, drop-take, drop-drop, length-drop, length-map, length-take}, specs.List.{sum, sum_by}}
use Rattle.std.proofs.lemmas.List.Sums.{sum_by-cons, sum_by-take-le, sum_by_push}
use Rattle.std.specs.Vec.{vec_items}
use Rattle.pass_calls.specs.{Object.{pieces_of, held, with_one_more}, declared.object.PassObject.PassObject}
use Rattle.pass_forms.specs.Pass.{Plain}

pub length_pieces : (lens bytes : List ℕ) → length (pieces_of lens bytes) ≡ length lens
length_pieces [] bytes = refl
length_pieces (len ∷ lens) bytes = ap suc (length_pieces lens (drop len bytes))

-- The result of copying `part` into the bytes, starting at index `place`.
abbrev pub written : ℕ → List ℕ → List ℕ → List ℕ
written place part bytes = take place bytes ++ (part ++ drop (place + length part) bytes)

pub part_in : (place : ℕ) (part bytes : List ℕ) → place ≤ length bytes → take (length part) (drop place (written place part bytes)) ≡ part
part_in place part bytes low = grind (arith, drop_at, length-take-le, take_at)

pub take_before : (k p : ℕ) (part bytes : List ℕ) → k + p ≤ length bytes → take k (written (k + p) part bytes) ≡ take k bytes
take_before k p part bytes low = grind (arith, length-take-le, take-append-le, take-take)

pub drop_before : (k p : ℕ) (part bytes : List ℕ) → k + p ≤ length bytes → drop k (written (k + p) part bytes) ≡ written p part (drop k bytes)
drop_before k p part bytes low = grind (arith, length-take-le, drop-drop, drop-append-le, drop-take)

pub one_more_piece : (lens : List ℕ) (part bytes : List ℕ) → sum lens + length part ≤ length bytes
    → pieces_of (lens ++ length part ∷ []) (written (sum lens) part bytes) ≡ pieces_of lens bytes ++ part ∷ []
one_more_piece [] part bytes low = ap (λ (piece : List ℕ). piece ∷ []) (part_in 0 part bytes (omega arith))
one_more_piece (len ∷ lens) part bytes low =
    let total = sum_by-cons (λ (x : ℕ). x) len lens in
    let left : sum lens + length part ≤ length (drop len bytes) = omega (arith, total, length-drop len bytes) in
    let within : len + sum lens ≤ length bytes = omega (arith, total) in
    ap (λ (n : ℕ). pieces_of (len ∷ lens ++ length part ∷ []) (written n part bytes)) total
    ∙ ap (λ (piece : List ℕ). piece ∷ pieces_of (lens ++ length part ∷ []) (drop len (written (len + sum lens) part bytes)))
    (take_before len (sum lens) part bytes within)
    ∙ ap (λ (rest : List ℕ). take len bytes ∷ pieces_of (lens ++ length part ∷ []) rest) (drop_before len (sum lens) part bytes within)
    ∙ ap (λ (others : List (List ℕ)). take len bytes ∷ others) (one_more_piece lens part (drop len bytes) left)

abbrev pub pass_of : List ℕ → List ℕ → List (List ℕ) → List ℕ → Plain
pass_of location identifier caveats signature =
    record { location = location; identifier = identifier; caveats = caveats; signature = signature }

pub same_pass : (l l' i i' : List ℕ) (c c' : List (List ℕ)) (s : List ℕ) → l ≡ l' → i ≡ i' → c ≡ c' → pass_of l i c s ≡ pass_of l' i' c' s
same_pass l l' i i' c c' s e f g = grind arith

pub pushed : (ll il : ℕ) (lens part bytes : List ℕ) → ll + (il + sum lens) + length part ≤ length bytes
    → (take ll (written (ll + (il + sum lens)) part bytes) ≡ take ll bytes)
    × ((take il (drop ll (written (ll + (il + sum lens)) part bytes)) ≡ take il (drop ll bytes))
    × (pieces_of (lens ++ length part ∷ []) (drop il (drop ll (written (ll + (il + sum lens)) part bytes)))
    ≡ pieces_of lens (drop il (drop ll bytes)) ++ part ∷ []))
pushed ll il lens part bytes low = grind (arith, drop_before, length-drop, take_before, one_more_piece)

pub held_push : (o : PassObject) (part bytes : List ℕ) (count tot : ℕ) → count ≡ length (take o.caveat_count o.caveat_lens) → count < 64
    → length o.caveat_lens ≡ 64 → length o.bytes ≡ 8192 → tot ≡ sum (take o.caveat_count o.caveat_lens)
    → o.location_len + o.identifier_len + tot + length part ≤ 8192 → bytes ≡ written (o.location_len + o.identifier_len + tot) part o.bytes
    → held (record o { caveat_count = count + 1; caveat_lens = set o.caveat_lens count (length part); bytes = bytes })
    ≡ with_one_more part (held o)
held_push o part bytes count tot counted few lens whole summed low is =
    let as_many : count ≡ o.caveat_count = omega (arith, length-take o.caveat_count o.caveat_lens) in
    let place : o.location_len + o.identifier_len + tot ≡ o.location_len + (o.identifier_len + sum (take o.caveat_count o.caveat_lens)) = omega arith in
    let there = is ∙ ap (λ (n : ℕ). written n part o.bytes) place in
    let all = pushed o.location_len o.identifier_len (take o.caveat_count o.caveat_lens) part o.bytes (omega (arith, place)) in
    let next : count + 1 ≡ suc count = omega arith in
    let more : take (count + 1) (set o.caveat_lens count (length part)) ≡ take o.caveat_count o.caveat_lens ++ length part ∷ [] =
    ap (λ (n : ℕ). take n (set o.caveat_lens count (length part))) next
    ∙ take-suc-set o.caveat_lens count (length part) (omega arith)
    ∙ ap (λ (n : ℕ). take n o.caveat_lens ++ length part ∷ []) as_many in
    same_pass _ _ _ _ _ _ o.signature (ap (take o.location_len) there ∙ all.0)
    (ap (λ (b : List ℕ). take o.identifier_len (drop o.location_len b)) there ∙ all.1.0)
    (ap (λ (ls : List ℕ). pieces_of ls (drop o.identifier_len (drop o.location_len bytes))) more
    ∙ ap (λ (b : List ℕ). pieces_of (take o.caveat_count o.caveat_lens ++ length part ∷ []) (drop o.identifier_len (drop o.location_len b))) there
    ∙ all.1.1)

pub next_caveat : {Z : Type 0} (vs : List (Vec ℕ Z)) (caveats : List (List ℕ)) (i : ℕ) (v : Vec ℕ Z) (text : List ℕ)
    → map vec_items vs ≡ caveats → i < length vs → v ≡ get_or vs i v → text ≡ vec_items v → take (i + 1) caveats ≡ take i caveats ++ text ∷ []
next_caveat vs caveats i v text same low at is =
    let here : get_or (map vec_items vs) i [] ≡ text = grind (arith, common_steps) in
    let few : i < length (map vec_items vs) = omega (arith, length-map vs vec_items) in
    grind (arith, common_steps, take_at_read (map vec_items vs) i [] few)

-- One more caveat needs as many bytes as it has, and the caveats so far have no more bytes than all.
pub more_taken : (caveats : List (List ℕ)) (i : ℕ) (text : List ℕ) → take (i + 1) caveats ≡ take i caveats ++ text ∷ []
    → sum_by length (take (i + 1) caveats) ≡ sum_by length (take i caveats) + length text
more_taken caveats i text is = ap (sum_by length) is ∙ sum_by_push length (take i caveats) text

pub part_taken : (caveats : List (List ℕ)) (i : ℕ) (text : List ℕ) → take (i + 1) caveats ≡ take i caveats ++ text ∷ []
    → sum_by length (take i caveats) + length text ≤ sum_by length caveats
part_taken caveats i text is = omega (arith, more_taken caveats i text is, sum_by-take-le length caveats (i + 1))
