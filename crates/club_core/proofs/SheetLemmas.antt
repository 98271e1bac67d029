-- Lemmas about the order of the rows in a day sheet, and about padded texts, such as the results
-- of the format strings `{:<24}` and `{:>9}`.
use Rattle.std.proofs.Common.{◌≡◌, ℕ, zero, suc, List, [], ◌∷◌, refl, sym, ap, ◌∙◌, ◌⊎◌, inl, inr, arith, ◌+◌, ◌-◌, ◌<◌, ◌≤◌, ◌==◌, ◌^◌, true, false, ◌++◌}
use Rattle.std.proofs.{Common.{length, append_assoc}, lemmas.{Bool.Decides.nat_tests, List.{append-nil, Elements.{Contains-append_right, All-cons}}}}
use Rattle.std.proofs.lemmas.List.{Elements.{All-contains, All-tail, All-weaker}, Kept.{AllPairs-cons, AllPairs-filter}, Sorted.All-permutation}
use Rattle.std.proofs.lemmas.List.Sorted.{IsPermutation-cons, IsPermutation-middle, IsPermutation-refl, IsPermutation-trans, Contains-permutation}
use Rattle.std.{proofs.lemmas.{List.Sorted.IsPermutation-sym, Map.Lookups.exact_bytes}, specs.Cmp.Lexicographic.{nat_list_cmp_total, slice_cmp}}
use Rattle.std.specs.{Fmt.{char_count, take_chars, padded, padded_integral, format_spec, styled_text, styled_decimal, decimal, is_char_start}, List.AllPass}
use Rattle.std.specs.{List.repeat, Ordering.{nat_cmp, ordering_reverse}, Prelude.{All, AllPairs, Contains, IsPermutation, filter, replicate, codes, sum_by}}
use Rattle.std.specs.declared.cmp.Ordering.{Ordering, TheVariants.{Equal, Greater, Less}}
use Rattle.club_core.specs.{Club.{Club, IsSound}, Sheet.{AreRowsOf, IsBefore, Precedes, is_on, left_in, right_in, totals_text}}
use Rattle.club_rows.specs.{Rows.persons_of, declared.booking.Booking.Booking}
use Rattle.club_values.specs.{Name.{is_name_byte, IsName}, Number.two_digits}
use lib.Utf8.{encode}

Contains-cons_cases : {X : Type 0} (y : X) (xs : List X) (x : X) → Contains (y ∷ xs) x → (y ≡ x) ⊎ Contains xs x
Contains-cons_cases y xs x (zero, lt, e) = inl e
Contains-cons_cases y xs x (suc k, lt, e) = inr (k, omega arith, e)

Contains-here : {X : Type 0} (x : X) (xs : List X) → Contains (x ∷ xs) x
Contains-here x xs = (0, omega arith, refl)

later : {X : Type 0} (R : X → X → Type 0) (x : X) (xs : List X) → AllPairs R (x ∷ xs) → All (R x) xs
later R x xs p = λ k d h. p 0 (suc k) d (omega arith) (omega arith)

rest : {X : Type 0} (R : X → X → Type 0) (x : X) (xs : List X) → AllPairs R (x ∷ xs) → AllPairs R xs
rest R x xs p = λ i j d lt h. p (suc i) (suc j) d (omega arith) (omega arith)

abbrev pub Asymmetric : {X : Type 0} → (X → X → Type 0) → Type 0
Asymmetric {X} R = (x y : X) → R x y → R y x → ⊥

module _ {X : Type 0} (R : X → X → Type 0) (asymmetric : Asymmetric R) where
  heads : (x y : X) (xs ys : List X) → AllPairs R (x ∷ xs) → AllPairs R (y ∷ ys) → Contains (y ∷ ys) x → Contains (x ∷ xs) y → x ≡ y
  heads x y xs ys p q x_there y_there =
      let in_ys = Contains-cons_cases y ys x x_there in
      let in_xs = Contains-cons_cases x xs y y_there in
      let above = All-contains (R x) xs y (later R x xs p) in
      let below = All-contains (R y) ys x (later R y ys q) in grind (arith, in_ys, in_xs, asymmetric x y)

  tails : (x y : X) (xs ys : List X) → x ≡ y → AllPairs R (x ∷ xs) → ((z : X) → Contains (x ∷ xs) z → Contains (y ∷ ys) z) → (z : X) → Contains xs z →
      Contains ys z
  tails x y xs ys same p to z h =
      let there = Contains-cons_cases y ys z (to z (Contains-append_right (x ∷ []) xs z h)) in
      grind (arith, All-contains (R x) xs z (later R x xs p) h, asymmetric z z)

  -- Two lists are equal if they have the same elements and are both sorted by the asymmetric
  -- relation `R`.
  pub one_order : (xs ys : List X) → AllPairs R xs → AllPairs R ys → ((z : X) → Contains xs z → Contains ys z) → ((z : X) → Contains ys z → Contains xs z) →
      xs ≡ ys
  one_order [] [] p q to back = refl
  one_order [] (y ∷ ys) p q to back = let h = back y (Contains-here y ys) in absurd (omega (arith, h.1))
  one_order (x ∷ xs) [] p q to back = let h = to x (Contains-here x xs) in absurd (omega (arith, h.1))
  one_order (x ∷ xs) (y ∷ ys) p q to back =
      let same = heads x y xs ys p q (to x (Contains-here x xs)) (back y (Contains-here y ys)) in
      let same_rest = one_order xs ys (rest R x xs p) (rest R y ys q) (tails x y xs ys same p to) (tails y x ys xs (sym same) q back) in cc

-- The list `zs` is `xs` sorted by the order `R`.
pub record IsOrdering {X : Type 0} (R : X → X → Type 0) (xs zs : List X) : Type 0 where
  pub same : IsPermutation xs zs
  pub sorted : AllPairs R zs

module _ {X : Type 0} (R Same : X → X → Type 0) (transitive : (x y z : X) → R x y → R y z → R x z) (total : (x y : X) → R x y ⊎ (Same x y ⊎ R y x)) where
  in_front : (x y : X) (ys : List X) → R x y → AllPairs R (y ∷ ys) → IsOrdering R (x ∷ y ∷ ys) (x ∷ y ∷ ys)
  in_front x y ys below p = record {
    same = IsPermutation-refl (x ∷ y ∷ ys);
    sorted = AllPairs-cons R x (y ∷ ys) (All-cons (R x) y ys below (All-weaker (R y) (R x) (λ z. transitive x y z below) ys (later R y ys p))) p;
  }

  behind : (x y : X) (ys zs : List X) → R y x → AllPairs R (y ∷ ys) → IsOrdering R (x ∷ ys) zs → IsOrdering R (x ∷ y ∷ ys) (y ∷ zs)
  behind x y ys zs above p o = record {
    same = IsPermutation-trans (x ∷ y ∷ ys) (y ∷ x ∷ ys) (y ∷ zs) (IsPermutation-middle (x ∷ []) y ys) (IsPermutation-cons y (x ∷ ys) zs o.same);
    sorted = AllPairs-cons R y zs (All-permutation (R y) (x ∷ ys) zs o.same (All-cons (R y) x ys above (later R y ys p))) o.sorted;
  }

  inserted : (x : X) (ys : List X) → AllPairs R ys → All (λ y. ¬ (Same x y)) ys → (zs : List X) × IsOrdering R (x ∷ ys) zs
  inserted x [] p new = (x ∷ [], record { same = IsPermutation-refl (x ∷ []); sorted = λ i j d lt h. absurd (omega arith) })
  inserted x (y ∷ ys) p new =
      elim (total x y) [
        | inl below ↦ (x ∷ y ∷ ys, in_front x y ys below p)
        | inr other ↦ elim other [
          | inl same ↦ absurd (new 0 y (omega arith) same)
          | inr above ↦
              (let made = inserted x ys (rest R y ys p) (All-tail (λ z. ¬ (Same x z)) y ys new) in
              (y ∷ made.0, behind x y ys made.0 above p made.1))
        ]
      ]

  -- A list can be sorted by `R` if no two of its elements are related by `Same`.
  pub ordering : (xs : List X) → AllPairs (λ x y. ¬ (Same x y)) xs → (zs : List X) × IsOrdering R xs zs
  ordering [] new = ([], record { same = IsPermutation-refl []; sorted = λ i j d lt h. absurd (omega arith) })
  ordering (x ∷ xs) new =
      let others = ordering xs (rest (λ a b. ¬ (Same a b)) x xs new) in
      let zs = others.0 in
      let made = inserted x zs others.1.sorted (All-permutation (λ y. ¬ (Same x y)) xs zs others.1.same (later (λ a b. ¬ (Same a b)) x xs new)) in
      let same = IsPermutation-trans (x ∷ xs) (x ∷ zs) made.0 (IsPermutation-cons x xs zs others.1.same) made.1.same in
      (made.0, record { same = same; sorted = made.1.sorted })

before_once : Asymmetric IsBefore
before_once a b h k = let turned : Less ≡ Greater = sym h ∙ nat_list_cmp_total.antisymm a b ∙ ap ordering_reverse k in cc

-- For each day, at most one list of bookings can be the rows of the day sheet.
pub one_list : (club : Club) (day : ℕ) (rows others : List Booking) → AreRowsOf club day rows → AreRowsOf club day others → rows ≡ others
one_list club day rows others a b =
    let there = IsPermutation-trans rows (filter (is_on day) club.bookings) others (IsPermutation-sym _ rows a.same) b.same in
    one_order Precedes (λ a b h k. grind (arith, before_once)) rows others a.order b.order (λ z. Contains-permutation rows others z there)
    (λ z. Contains-permutation others rows z (IsPermutation-sym rows others there))

-- In a total order, one of any two different elements precedes the other element.
abbrev pub Total : {K : Type 0} → (K → K → Type 0) → Type 0
Total {K} R = (x y : K) → R x y ⊎ ((x ≡ y) ⊎ R y x)

before_by : (a b : List ℕ) (order : Ordering) → slice_cmp nat_cmp a b ≡ order → IsBefore a b ⊎ ((a ≡ b) ⊎ IsBefore b a)
before_by a b Less e = inl e
before_by a b Equal e = inr (inl (exact_bytes a b e))
before_by a b Greater e = inr (inr (nat_list_cmp_total.antisymm b a ∙ ap ordering_reverse e))

before_total : Total IsBefore
before_total a b = before_by a b (slice_cmp nat_cmp a b) refl

before_transitive : (a b c : List ℕ) → IsBefore a b → IsBefore b c → IsBefore a c
before_transitive a b c h k = nat_list_cmp_total.trans a b c h k

-- The two bookings have the same facility, hour, key and number.
abbrev Same : Booking → Booking → Type 0
Same a b = (a.slot.facility ≡ b.slot.facility) × ((a.slot.hour ≡ b.slot.hour) × ((a.key ≡ b.key) × (a.number ≡ b.number)))

precedes_total : (a b : Booking) → Precedes a b ⊎ (Same a b ⊎ Precedes b a)
precedes_total a b =
    let facility = before_total a.slot.facility b.slot.facility in
    let key = before_total a.key b.key in grind arith

-- For every day, the bookings of a sound club can be sorted into the rows of a day sheet.
pub day_rows : (club : Club) → IsSound club → (day : ℕ) → (rows : List Booking) × AreRowsOf club day rows
day_rows club sound day =
    let named = AllPairs-filter (λ (a : Booking) (b : Booking). ¬ ((a.key ≡ b.key) × (a.number ≡ b.number))) (is_on day) club.bookings sound.unique.bookings in
    let made =
    ordering Precedes Same (λ a b c h k. grind (arith, before_transitive)) precedes_total (filter (is_on day) club.bookings)
    (λ i j d lt h same. named i j d lt h (same.1.1.0, same.1.1.1)) in
    (made.0, record { same = made.1.same; order = made.1.sorted })

is_char_start-name : (b : ℕ) → is_name_byte b ≡ true → is_char_start b ≡ true
is_char_start-name b h = grind arith

char_count-name : (text : List ℕ) → AllPass is_name_byte text → char_count text ≡ length text
unfolding char_count
char_count-name [] h = refl
char_count-name (b ∷ text) h =
    let same = char_count-name text (All-tail (λ x. is_name_byte x ≡ true) b text h) in rw (is_char_start-name b (h 0 b (omega arith))) (omega arith)

not_zero : (n : ℕ) → 0 < n → (n == 0) ≡ false
not_zero n h = grind (arith, nat_tests)

take_chars-name : (n : ℕ) (text : List ℕ) → AllPass is_name_byte text → length text ≤ n → take_chars n text ≡ text
unfolding take_chars
take_chars-name n [] h small = refl
take_chars-name n (b ∷ text) h small =
    let same = take_chars-name (n - 1) text (All-tail (λ x. is_name_byte x ≡ true) b text h) (omega arith) in
    rw (is_char_start-name b (h 0 b (omega arith)), not_zero n (omega arith)) (ap (λ rest. b ∷ rest) same)

spaces : (m n : ℕ) → m ≡ n → repeat {A = ℕ} m (32 ∷ []) ≡ replicate n 32
spaces zero n e = rw (← e) refl
spaces (suc m) n e = rw (← e) (ap (λ rest. 32 ∷ rest) (spaces m m refl))

pub styled_text-left : (text : List ℕ) → IsName text → styled_text (format_spec 32 1 0 24 (2 ^ 64 - 1)) text ≡ left_in 24 text
unfolding padded encode
styled_text-left text h =
    let whole = take_chars-name (2 ^ 64 - 1) text h.letters (omega (arith, h.short)) in
    let count = char_count-name text h.letters in
    rw (whole, count) (ap (λ rest. text ++ rest) (spaces (24 - length text - 0) (24 - length text) (omega arith)))

pub padded_integral-right : (places : ℕ) (numeral : List ℕ) →
    padded_integral (format_spec 32 3 0 places (2 ^ 64 - 1)) false [] numeral ≡ right_in places numeral
unfolding padded_integral char_count encode
padded_integral-right places numeral =
    let room = places - length numeral in
    let laid : List ℕ → List ℕ → List ℕ = λ before behind. (((before ++ []) ++ []) ++ []) ++ (numeral ++ behind) in
    let e : padded_integral (format_spec 32 3 0 places (2 ^ 64 - 1)) false [] numeral ≡ laid (repeat (room - 0 - 0) (32 ∷ []))
    (repeat (room - 0 - 0 - (room - 0 - 0)) (32 ∷ [])) = refl in
    let before = ap (λ front. laid front (repeat (room - 0 - 0 - (room - 0 - 0)) (32 ∷ []))) (spaces (room - 0 - 0) room (omega arith)) in
    let behind = ap (laid (replicate room 32)) (spaces (room - 0 - 0 - (room - 0 - 0)) 0 (omega arith)) in
    e ∙ before ∙ behind ∙ simp append-nil

pub left-of : (options : _) (text name : List ℕ) → options ≡ format_spec 32 1 0 24 (2 ^ 64 - 1) → text ≡ name → IsName text →
    styled_text options text ≡ left_in 24 name
left-of options text name e same h = ap (λ s. styled_text s text) e ∙ styled_text-left text h ∙ ap (left_in 24) same

pub right-of : (places : ℕ) (options : _) (n m : ℕ) → options ≡ format_spec 32 3 0 places (2 ^ 64 - 1) → n ≡ m → 0 < places →
    styled_decimal options n ≡ right_in places (decimal m)
right-of places options n m e same h =
    let wide : styled_decimal (format_spec 32 3 0 places (2 ^ 64 - 1)) n ≡ padded_integral (format_spec 32 3 0 places (2 ^ 64 - 1)) false [] (decimal n) =
    rw (not_zero places h) refl in
    ap (λ s. styled_decimal s n) e ∙ wide ∙ padded_integral-right places (decimal n) ∙ ap (λ k. right_in places (decimal k)) same

-- The text of a row in a day sheet, built from the row's columns and ending with a line feed.
unfoldable pub laid_text : List ℕ → ℕ → List ℕ → List ℕ → List ℕ → List ℕ → List ℕ
laid_text facility hour key number persons charge =
    facility ++ (codes " " ++ (two_digits hour ++
    (codes ":00 " ++ (key ++ (codes " " ++ (number ++ (codes " " ++ (persons ++ (codes " " ++ (charge ++ 10 ∷ []))))))))))

-- The text of the totals line in a day sheet, ending with a line feed.
unfoldable pub laid_totals : ℕ → ℕ → ℕ → List ℕ
laid_totals count persons charge =
    codes "Total bookings " ++ (decimal count ++ (codes ", persons " ++ (decimal persons ++ (codes ", charge " ++ (decimal charge ++ 10 ∷ [])))))

pub laid_totals-totals_text : (rows : List Booking) (persons charge : ℕ) → ¬ (length rows ≡ 0) → persons ≡ sum_by persons_of rows →
    charge ≡ sum_by (λ (b : Booking). b.charge) rows
    → laid_totals (length rows) persons charge ≡ totals_text rows
unfolding laid_totals
laid_totals-totals_text [] persons charge some p c = absurd (some refl)
laid_totals-totals_text (row ∷ rows) persons charge some p c = rw (p, c) (simp append_assoc)
