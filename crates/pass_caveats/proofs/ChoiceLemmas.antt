-- Lemmas about the parts and words of comma-separated lists. Others are for the proofs that a text
-- is understood as the caveat that `caveat_of` returns, and that `permits` returns true if and only
-- if the caveat allows the request.
use Rattle.std.proofs.Common.{◌≡◌, ◌≢◌, ℕ, ◌+◌, ◌<◌, ◌≤◌, ◌↔◌, ◌-◌, Bool, true, false, cond, List, [], ◌∷◌, ◌++◌, length, get_or, take, drop, refl, ap, ◌∙◌}
use Rattle.std.proofs.Common.{arith, IsTrue, All, Contains, ◌==◌, map, Option, Some, None, sym, Bor, ◌&&◌, ◌||◌, not, filter, is_some, codes, nat_lt, Decides}
use Rattle.std.proofs.{Common.{IsSomeAnd, rules}, lemmas.Bool.{cond_both, Decides.{nat_tests, same_from_decides, Decides-like, Decides-ltb}}}
use Rattle.std.proofs.lemmas.{Bool.Decides.{Decides-by_and, Decides-by_or}, Fmt.{decimal_is_IsNumeral, decimal_injective}, Grind.common_steps, Option.cond_some}
use Rattle.std.proofs.lemmas.List.{take-append-drop, length-map, append-nil, Elements.{All-head, All-tail, All-nil, All-cons, at_from_Contains}}
use Rattle.std.proofs.lemmas.{List.Splits.{slice_split_none, slice_split_at, length-slice_split, join_with_byte-slice_split}, Slice.Eq.bytes_eq-Decides}
use Rattle.std.specs.{Bool.MatchBool, List.{HoldsAt, AllWithin, list_all, list_any}, Option.{option_copied, option_map_or}, Str.bytes_eq}
use Rattle.club_values.specs.{Kind.{action_text, weekdays}, Laws.{DistinctDayTexts, IsTextOfDay, IsTextOfMoment, ReadsDays, ReadsMoments, ReadsNames}}
use Rattle.club_values.specs.{Moment.{IsDay, IsMoment, day_text, moment_text, SpellsDay}, Name.IsName, Number.SpellsNumber, declared.slot.Slot.Slot}
use Rattle.club_values.specs.computed.TextOf.{day_of, day_of_text, is_name, moment_of, moment_of_text, name_of_text}
use Rattle.club_values.specs.declared.kind.Kind.{Kind as AKind, TheVariants.Court}
use Rattle.pass_caveats.specs.{Caveat.{IsCaveat, caveat_text, Understood, Permits, permits, SpellsCaveat}, Choices.{AreNames, comma_parts, comma_list, Skips}}
use Rattle.pass_caveats.specs.{Choices.{parts_left, all_actions, has_action, weekday_text, has_weekday}, computed.CaveatOf.{is_next, after_next, words_found}}
use Rattle.pass_caveats.specs.{Laws.ReadsWhatIsUnderstood, computed.CaveatOf.{candidate, actions_from, weekdays_from, is_caveat, spells, caveat_of}}
use Rattle.pass_caveats.specs.declared.{ask.Ask.Ask, caveat.Caveat.{Caveat, TheVariants.{Facility, Kind, Hours, Days, Weekdays, Until, Guests, Spend, Actions}}}
use Rattle.pass_caveats.specs.declared.{actions.Actions.Actions as SomeActions, weekdays.Weekdays.Weekdays as SomeWeekdays}

pub contains_from_any : (r : Bool) (xs : List (List ℕ)) (x : List ℕ) →
    MatchBool r ((k : ℕ) × (k < length xs) × HoldsAt (λ y. y ≡ x) xs k) (AllWithin (λ y. y ≢ x) xs 0 (length xs)) → IsTrue r ↔ Contains xs x
contains_from_any true xs x h = ((λ e. (h.0, h.1, h.2 x)), (λ c. refl))
contains_from_any false xs x h = ((λ e. cc), (λ c. absurd (h c.0 x (omega arith) c.1 c.2)))

pub all_from_all : (r : Bool) (xs : List (List ℕ)) (P : List ℕ → Type 0) →
    MatchBool r (AllWithin P xs 0 (length xs)) ((k : ℕ) × (k < length xs) × HoldsAt (λ y. P y → ⊥) xs k) → IsTrue r ↔ All P xs
all_from_all true xs P h = ((λ e k d within. h k d (omega arith) within), (λ c. refl))
all_from_all false xs P h = ((λ e. cc), (λ c. absurd (h.2 [] (c h.0 [] h.1))))

abbrev pub HasNoComma : List ℕ → Type 0
HasNoComma text = All (λ byte. (byte == 44) ≡ false) text

no_comma : (name : List ℕ) → IsName name → HasNoComma name
no_comma name h = λ k d within. grind (arith, nat_tests, h.letters k d within)

no_commas : (names : List (List ℕ)) → All IsName names → All HasNoComma names
no_commas names h = λ k d within. no_comma _ (h k d within)

pub parts_of-joined : (parts : List (List ℕ)) → 0 < length parts → All HasNoComma parts → comma_parts (comma_list parts) ≡ parts
parts_of-joined [] some h = absurd (omega arith)
parts_of-joined (x ∷ []) some h = slice_split_none (λ byte. byte == 44) x (All-head HasNoComma x [] h)
parts_of-joined (x ∷ y ∷ rest) some h =
    grind (arith, slice_split_at, All-head HasNoComma x (y ∷ rest) h, parts_of-joined (y ∷ rest), All-tail HasNoComma x (y ∷ rest) h)

pub names_again : (names : List (List ℕ)) → AreNames names → comma_parts (comma_list names) ≡ names
names_again names h = parts_of-joined names h.some (no_commas names h.each_is_name)

pub some_part : (text : List ℕ) → 0 < length (comma_parts text)
some_part text = omega (arith, length-slice_split (λ byte. byte == 44) text)

at_comma : (text : List ℕ) (i : ℕ) → i < length text → get_or text i 0 ≡ 44 → text ≡ take i text ++ 44 ∷ drop (i + 1) text
at_comma text i h e = grind (arith, common_steps, take-append-drop)

no_comma_before : (text : List ℕ) (i : ℕ) → i ≤ length text → AllWithin (λ byte. byte ≢ 44) text 0 i → All (λ byte. (byte == 44) ≡ false) (take i text)
no_comma_before text i h none = grind (arith, nat_tests, common_steps)

pub parts_of-comma : (text rest : List ℕ) (i : ℕ) → i < length text → HoldsAt (λ byte. byte ≡ 44) text i → AllWithin (λ byte. byte ≢ 44) text 0 i →
    rest ≡ drop (i + 1) text → comma_parts text ≡ take i text ∷ comma_parts rest
parts_of-comma text rest i h here before e =
    rw e (ap comma_parts (at_comma text i h (here 0)) ∙ slice_split_at (λ byte. byte == 44) (take i text) 44 (drop (i + 1) text)
    (no_comma_before text i (omega arith) before) refl)

pub tail_is : (text : List ℕ) (i : ℕ) → take (length text - (i + 1)) (drop (i + 1) text) ≡ drop (i + 1) text
tail_is text i = grind (arith, common_steps)

-- Returns the words whose flag is true.
abbrev chosen : List Bool → List (List ℕ) → List (List ℕ)
chosen [] words = []
chosen (flag ∷ flags) [] = []
chosen (flag ∷ flags) (word ∷ words) = cond flag (word ∷ chosen flags words) (chosen flags words)

chosen_is : {A : Type 0} (test : A → Bool) (text : A → List ℕ) (xs : List A) → map text (filter test xs) ≡ chosen (map test xs) (map text xs)
chosen_is test text [] = refl
chosen_is test text (x ∷ xs) = grind (arith, chosen_is test text xs)

-- Returns true if the list contains the word.
abbrev is_among : List ℕ → List (List ℕ) → Bool
is_among word [] = false
is_among word (other ∷ others) = bytes_eq other word || is_among word others

abbrev are_distinct : List (List ℕ) → Bool
are_distinct [] = true
are_distinct (word ∷ words) = not (is_among word words) && are_distinct words

abbrev are_plain : List (List ℕ) → Bool
are_plain words = list_all (list_all (λ byte. not (byte == 44))) words

pub record AreWords {A : Type 0} (text : A → List ℕ) (xs : List A) : Type 0 where
  pub distinct : are_distinct (map text xs) ≡ true
  pub plain : are_plain (map text xs) ≡ true

not_next : (word : List ℕ) (flags : List Bool) (words : List (List ℕ)) → is_among word words ≡ false → is_next word (chosen flags words) ≡ false
not_next word [] words none = refl
not_next word (flag ∷ flags) [] none = refl
not_next word (flag ∷ flags) (other ∷ others) none = grind (arith, not_next word flags others)

-- Returns the parts that remain after the parser has looked for all words.
abbrev left_after : List (List ℕ) → List (List ℕ) → List (List ℕ)
left_after [] parts = parts
left_after (word ∷ words) parts = left_after words (after_next word parts)

found_again : (flags : List Bool) (words : List (List ℕ)) → length flags ≡ length words → are_distinct words ≡ true →
    (words_found words (chosen flags words) ≡ flags) × (left_after words (chosen flags words) ≡ [])
found_again [] [] same distinct = (refl, refl)
found_again (flag ∷ flags) (word ∷ words) same distinct =
    grind (arith, found_again flags words, not_next word flags words, bytes_eq-Decides word word, chosen flags words)
found_again flags words same distinct = absurd (omega arith)

-- The steps of a parser that looks for one word after another. Each word's flag is true if the
-- parser found the word. The list `last` contains the parts that remain after the last step.
abbrev pub Steps : List Bool → List (List ℕ) → List (List ℕ) → List (List ℕ) → Type 0
Steps [] [] parts last = parts ≡ last
Steps [] (word ∷ words) parts last = ⊥
Steps (flag ∷ flags) [] parts last = ⊥
Steps (flag ∷ flags) (word ∷ words) parts last = (next : List (List ℕ)) × Skips word parts flag next × Steps flags words next last

steps_take : (flags : List Bool) (words parts last : List (List ℕ)) → Steps flags words parts last → parts ≡ chosen flags words ++ last
steps_take [] [] parts last e = e
steps_take (flag ∷ flags) (word ∷ words) parts last s = grind (arith, steps_take flags words s.0 last s.2)
steps_take flags words parts last e = absurd e

steps_leave : (flags : List Bool) (words parts last : List (List ℕ)) → Steps flags words parts last → last ≡ left_after words parts
steps_leave [] [] parts last e = sym e
steps_leave (flag ∷ flags) (word ∷ words) parts last s = grind (arith, bytes_eq-Decides, steps_leave flags words s.0 last s.2)
steps_leave flags words parts last e = absurd e

chosen_plain : (flags : List Bool) (words : List (List ℕ)) → All HasNoComma words → All HasNoComma (chosen flags words)
chosen_plain (flag ∷ flags) (word ∷ words) h =
    let rest = chosen_plain flags words (All-tail HasNoComma word words h) in
    cond_both flag (word ∷ chosen flags words) (chosen flags words) (All HasNoComma)
    (λ _. All-cons HasNoComma word (chosen flags words) (All-head HasNoComma word words h) rest) (λ _. rest)
chosen_plain flags words h = All-nil HasNoComma

pub some_of : {A : Type 0} (xs : List A) → xs ≢ [] → 0 < length xs
some_of [] h = absurd (h refl)
some_of (x ∷ xs) h = omega arith

same_length : {A : Type 0} (test : A → Bool) (text : A → List ℕ) (xs : List A) → length (map test xs) ≡ length (map text xs)
same_length test text xs = length-map xs test ∙ sym (length-map xs text)

pub reads_choice : {A : Type 0} (test : A → Bool) (text : A → List ℕ) (xs : List A) (t : List ℕ) → Steps (map test xs) (map text xs) (comma_parts t) [] →
    (map text (filter test xs) ≢ []) × (t ≡ comma_list (map text (filter test xs)))
reads_choice test text xs t steps =
    let parts : comma_parts t ≡ map text (filter test xs) =
    steps_take (map test xs) (map text xs) (comma_parts t) [] steps ∙ (append-nil (chosen (map test xs) (map text xs)) ∙ sym (chosen_is test text xs)) in
    ((λ none. absurd (omega (arith, some_part t, ap (length {A = List ℕ}) (parts ∙ none)))), sym (join_with_byte-slice_split 44 t) ∙ ap comma_list parts)

pub no_choice : {A : Type 0} (text : A → List ℕ) (xs : List A) → AreWords text xs → (found : List Bool) (t : List ℕ) (last : List (List ℕ)) → last ≢ [] →
    Steps found (map text xs) (comma_parts t) last → (test : A → Bool) → map text (filter test xs) ≢ [] → t ≡ comma_list (map text (filter test xs)) → ⊥
no_choice text xs are found t last some steps test chooses e =
    let items = chosen_is test text xs in
    let is : t ≡ comma_list (chosen (map test xs) (map text xs)) = e ∙ ap comma_list items in
    let parts : comma_parts t ≡ chosen (map test xs) (map text xs) =
    ap comma_parts is ∙ (grind (arith, parts_of-joined, some_of, chosen_plain, common_steps, nat_tests)) in
    some (steps_leave found (map text xs) (comma_parts t) last steps
    ∙ (ap (left_after (map text xs)) parts ∙ (found_again (map test xs) (map text xs) (same_length test text xs) are.distinct).1))

pub choice_again : {A : Type 0} (test : A → Bool) (text : A → List ℕ) (xs : List A) → AreWords text xs → map text (filter test xs) ≢ [] →
    words_found (map text xs) (comma_parts (comma_list (map text (filter test xs)))) ≡ map test xs
choice_again test text xs are chooses = grind (arith, chosen_is, parts_of-joined, some_of, chosen_plain, common_steps, nat_tests, found_again, same_length)

pub something_left : (rest : Option (Bor (List ℕ))) → is_some rest ≡ true → parts_left (option_copied rest) ≢ []
something_left (Some text) e none = absurd (omega (arith, some_part text.now, ap (length {A = List ℕ}) none))
something_left None e none = cc

pub nothing_left : (rest : Option (Bor (List ℕ))) → is_some rest ≡ false → parts_left (option_copied rest) ≡ []
nothing_left rest e = grind arith

module _ (days : ReadsDays) (day_texts : IsTextOfDay) (moments : ReadsMoments) (moment_texts : IsTextOfMoment) where
  day_again : (n : ℕ) (rest : List ℕ) → IsDay n → day_of (day_text n ++ rest) ≡ n
  unfolding day_of_text day_text
  day_again n rest h = (cond_some _ _ n ((days (day_text n) n).1 ((day_texts (day_text n) n).1 (h, refl)))).1

  moment_again : (n : ℕ) → IsMoment n → moment_of (moment_text n) ≡ n
  unfolding moment_of_text
  moment_again n h = (cond_some _ _ n ((moments (moment_text n) n).1 ((moment_texts (moment_text n) n).1 (h, refl)))).1

  candidate-caveat_text : (caveat : Caveat) → IsCaveat caveat → candidate (caveat_text caveat) ≡ caveat
  unfolding candidate day_text
  candidate-caveat_text (Facility names) h = ap Facility (names_again names h)
  candidate-caveat_text (Kind Court) h = refl
  candidate-caveat_text (Kind kind) h = refl
  candidate-caveat_text (Hours from until) h = grind arith
  candidate-caveat_text (Days first last) h = rw (day_again first (codes ".." ++ day_text last) h.0, day_again last [] h.1)
  candidate-caveat_text (Weekdays set) h = ap Weekdays (ap weekdays_from (choice_again (has_weekday set) weekday_text weekdays (record {
    distinct = refl;
    plain =
        refl;
  }) h))
  candidate-caveat_text (Until moment) h = ap Until (moment_again moment h)
  candidate-caveat_text (Guests n) h = ap Guests (decimal_is_IsNumeral n (omega arith)).1
  candidate-caveat_text (Spend n) h = ap Spend (decimal_is_IsNumeral n (omega arith)).1
  candidate-caveat_text (Actions actions) h = ap Actions (ap actions_from (choice_again (has_action actions) action_text all_actions (record {
    distinct = refl;
    plain = refl;
  }) h))

Decides-are_names : ReadsNames → (names : List (List ℕ)) → Decides (is_caveat (Facility names)) (AreNames names)
unfolding name_of_text
Decides-are_names reads names =
    let all = Decides-by_and is_name IsName (list_all is_name) (λ name. grind (arith, reads name name)) refl (λ _ _. refl) names in
    grind (arith, nat_tests, all)

Decides-some : (texts : List (List ℕ)) → Decides (nat_lt 0 (length texts)) (texts ≢ [])
Decides-some texts = Decides-like _ (λ h e. absurd (omega (arith, ap (length {A = List ℕ}) e, h))) (some_of texts) (Decides-ltb 0 (length texts))

Decides-spells : ReadsNames → (text : List ℕ) (caveat : Caveat) → Decides (spells text caveat) (Understood text caveat)
Decides-spells reads text caveat = grind (arith, nat_tests, Decides-are_names reads, Decides-some, bytes_eq-Decides)

pub reads_what_is_understood : ReadsNames → ReadsDays → IsTextOfDay → ReadsMoments → IsTextOfMoment → ReadsWhatIsUnderstood
unfolding caveat_of
reads_what_is_understood names days day_texts moments moment_texts text caveat = (
  λ h. grind (arith, candidate-caveat_text days day_texts moments moment_texts, Decides-spells names),
  λ e. let is = cond_some (spells text (candidate text)) (candidate text) caveat e in rw (← is.1) ((Decides-spells names text (candidate text)).0 is.0),
)

Decides-slot : (slot : Option Slot) (p : Slot → Bool) (P : Slot → Type 0) → ((s : Slot) → Decides (p s) (P s)) →
    Decides (option_map_or p slot false) (IsSomeAnd slot P)
Decides-slot slot p P h = grind (arith, h)

Decides-has : (names : List (List ℕ)) (name : List ℕ) → Decides (list_any (λ n. bytes_eq n name) names) (Contains names name)
Decides-has names name =
    Decides-like _ (λ h. (h.0, h.1, h.2 name)) (at_from_Contains names name)
    (Decides-by_or (λ n. bytes_eq n name) (λ n. n ≡ name) (list_any (λ n. bytes_eq n name)) (λ n. bytes_eq-Decides n name) refl (λ _ _. refl) names)

pub Decides-permits : (caveat : Caveat) (ask : Ask) → Decides (permits caveat ask) (Permits caveat ask)
unfolding permits
Decides-permits (Facility names) ask = Decides-slot ask.slot _ _ (λ slot. Decides-has names slot.facility)
Decides-permits caveat ask = grind (arith, nat_tests)

pub same_as_permits : (caveat : Caveat) (ask : Ask) (r : Bool) → IsTrue r ↔ Permits caveat ask → r ≡ permits caveat ask
same_as_permits caveat ask r h = same_from_decides r (permits caveat ask) h (Decides-permits caveat ask)

pub too_many_guests : (text rest : List ℕ) (n : ℕ) → text ≡ codes "guests <= " ++ rest → SpellsNumber rest n → 49 < n → (x : ℕ) → SpellsCaveat text (Guests x)
    → ⊥
too_many_guests text rest n e s large x h = grind (arith, common_steps, decimal_injective)

-- `AreDates rest a b` means that `rest` consists of the date of day `a`, two dots, and the date of
-- day `b`. The first date has ten bytes.
pub record AreDates (rest : List ℕ) (a b : ℕ) : Type 0 where
  pub first : take 10 rest ≡ day_text a
  pub second : drop 10 rest ≡ codes ".." ++ day_text b
  pub long : length rest ≡ 22

pub dates_of : (text rest : List ℕ) (a b : ℕ) → text ≡ codes "days = " ++ rest → SpellsCaveat text (Days a b) → AreDates rest a b
unfolding day_text
dates_of text rest a b e h = grind (arith, common_steps, h.spelling)

pub no_first_day : IsTextOfDay → (text rest front : List ℕ) → text ≡ codes "days = " ++ rest → front ≡ take 10 rest → ((n : ℕ) → SpellsDay front n → ⊥) →
    (x : ℕ × ℕ) → SpellsCaveat text (Days x.0 x.1) → ⊥
no_first_day texts text rest front e front_is never x h = never x.0 ((texts front x.0).1 (h.real.0, front_is ∙ (dates_of text rest x.0 x.1 e h).first))

pub no_dots : (text rest back : List ℕ) → text ≡ codes "days = " ++ rest → back ≡ drop 10 rest → ((last : List ℕ) → back ≡ codes ".." ++ last → ⊥) →
    (x : ℕ × ℕ) → SpellsCaveat text (Days x.0 x.1) → ⊥
no_dots text rest back e back_is never x h = never (day_text x.1) (back_is ∙ (dates_of text rest x.0 x.1 e h).second)

second_is : (text rest back last : List ℕ) (a b : ℕ) → text ≡ codes "days = " ++ rest → back ≡ drop 10 rest → back ≡ codes ".." ++ last →
    SpellsCaveat text (Days a b) → last ≡ day_text b
second_is text rest back last a b e back_is dots h = ap (drop 2) (sym dots ∙ (back_is ∙ (dates_of text rest a b e h).second))

pub no_second_day : IsTextOfDay → (text rest back last : List ℕ) → text ≡ codes "days = " ++ rest → back ≡ drop 10 rest → back ≡ codes ".." ++ last →
    ((n : ℕ) → SpellsDay last n → ⊥) → (x : ℕ × ℕ) → SpellsCaveat text (Days x.0 x.1) → ⊥
no_second_day texts text rest back last e back_is dots never x h =
    never x.1 ((texts last x.1).1 (h.real.1, second_is text rest back last x.0 x.1 e back_is dots h))

pub spells_days : IsTextOfDay → (text rest front back last : List ℕ) (a b : ℕ) → text ≡ codes "days = " ++ rest → front ≡ take 10 rest → back ≡ drop 10 rest →
    back ≡ codes ".." ++ last → SpellsDay front a → SpellsDay last b → a ≤ b → SpellsCaveat text (Days a b)
spells_days texts text rest front back last a b e front_is back_is dots s t le =
    let first = (texts front a).0 s in
    let second = (texts last b).0 t in
    let both : front ++ back ≡ rest = rw (front_is, back_is) (take-append-drop 10 rest) in
    record { real = (first.0, second.0, le); spelling = rw (e, ← both, dots, first.1, second.1) refl }

pub days_fall : IsTextOfDay → DistinctDayTexts → (text rest front back last : List ℕ) (a b : ℕ) → text ≡ codes "days = " ++ rest → front ≡ take 10 rest →
    back ≡ drop 10 rest → back ≡ codes ".." ++ last → SpellsDay front a → SpellsDay last b → b < a → (x : ℕ × ℕ) → SpellsCaveat text (Days x.0 x.1) → ⊥
days_fall texts distinct text rest front back last a b e front_is back_is dots s t lt x h =
    let first = (texts front a).0 s in
    let second = (texts last b).0 t in
    let same_first = distinct a x.0 first.0 h.real.0 (sym first.1 ∙ (front_is ∙ (dates_of text rest x.0 x.1 e h).first)) in
    let same_second = distinct b x.1 second.0 h.real.1 (sym second.1 ∙ second_is text rest back last x.0 x.1 e back_is dots h) in
    absurd (omega (arith, h.real.2))

pub no_line : (text : List ℕ) → ((x : List (List ℕ)) → SpellsCaveat text (Facility x) → ⊥) → ((x : AKind) → SpellsCaveat text (Kind x) → ⊥) →
    ((x : ℕ × ℕ) → SpellsCaveat text (Hours x.0 x.1) → ⊥) → ((x : ℕ × ℕ) → SpellsCaveat text (Days x.0 x.1) → ⊥)
    → ((x : SomeWeekdays) → SpellsCaveat text (Weekdays x) → ⊥) →
    ((x : ℕ) → SpellsCaveat text (Until x) → ⊥) → ((x : ℕ) → SpellsCaveat text (Guests x) → ⊥) → ((x : ℕ) → SpellsCaveat text (Spend x) → ⊥) →
    ((x : SomeActions) → SpellsCaveat text (Actions x) → ⊥) → (caveat : Caveat) → SpellsCaveat text caveat → ⊥
no_line text f k h d w u g s a (Hours from until) is = h (from, until) is
no_line text f k h d w u g s a (Days first last) is = d (first, last) is
no_line text f k h d w u g s a caveat is = search rules
