-- Lemmas on dates and moments, their texts `YYYY-MM-DD` and `YYYY-MM-DDTHH:MM`, and the functions
-- that parse these texts.
use Rattle.std.proofs.Common.{◌≡◌, ◌<◌, ℕ, ◌+◌, ◌*◌, length, List, [], ◌∷◌, get_or, arith, sym, ◌∙◌, subst, Option, Result, Ok, Err, ℤ, pos, ◌-◌, ◌/◌, ◌%◌, ◌≤◌}
use Rattle.std.proofs.Common.{◌≢◌, cond, Bool, true, false, nat_lt, refl, suc, ltb-true, ltb-false, ◌++◌, to_z, of_z, w16, ◌+ℤ◌, take, drop, ap, ◌↔◌, Some}
use Rattle.std.proofs.{Common.{None, Decides}, lemmas.{Bool.Decides.{nat_tests, Decides-like, Decides-ltb}, Grind.common_steps, Slice.Eq.text_from_reads}}
use Rattle.std.{proofs.lemmas.Slice.Eq.bytes_eq-Decides, specs.{Prelude.{IsOk, IfOk, ◌&&◌, not}, Result.result_ok, Str.Parse.digits_value}}
use Rattle.club_values.proofs.TextLemmas.{two_digits_injective, leads_with_zero, Decides-number, value_of-number, Decides-is_name, Decides-range}
use Rattle.club_values.specs.{Kind.{action_text, kind_text}, Laws.{ReadsNames, ReadsNumbers, ReadsKinds, ReadsActions, ReadsDays, ReadsHours, ReadsMoments}}
use Rattle.club_values.specs.Moment.{IsDay, date_text, AreDateParts, IsDateText, SpellsDay, IsDateOf, march_year, day_of_march_year, year_of, month_of}
use Rattle.club_values.specs.{Moment.{day_of_month, day_text, IsHour, SpellsHour, IsMoment, moment_text, time_text, SpellsTime, SpellsMoment}, Name.IsName}
use Rattle.club_values.specs.{Number.{two_digits, are_few_digits, SpellsNumber, Reads}, computed.TextOf.{day_of, moment_of, is_name, two_at, candidate_kind}}
use Rattle.club_values.specs.computed.TextOf.{candidate_action, where_spelled, name_of_text, day_of_text, decimal_of_text, moment_of_text, hour_of_text}
use Rattle.club_values.specs.computed.TextOf.{kind_of_text, action_of_text}
use Rattle.jiff_core.proofs.{CalendarLemmas.{days_in_month_bounds, days_from_civil-day_count}, DateLemmas.{civil, epoch_day_injective}}
use Rattle.jiff_core.proofs.MarchLemmas.{day_count-late, day_count-early, month_and_day, day_in_month, day_in_early_month, leap_day}
use Rattle.jiff_core.{proofs.SignedLemmas.{signed_arith, back_small}, specs.{Calendar.{IsCivilDate, IsDate, days_from_civil, day_count}, Date.epoch_day}}
use Rattle.jiff_core.specs.{Date.IsYmd, March.march_days, declared.civil.date.Date.Date}

pub parts_from_reads : (text : List ℕ) (century y year month day : ℕ) → length text ≡ 10 → get_or text 4 0 ≡ 45 → get_or text 7 0 ≡ 45 → century < 100 →
    y < 100 → month < 100 → day < 100 → year ≡ century * 100 + y → get_or text 0 0 ∷ get_or text 1 0 ∷ [] ≡ two_digits century →
    get_or text 2 0 ∷ get_or text 3 0 ∷ [] ≡ two_digits y → get_or text 5 0 ∷ get_or text 6 0 ∷ [] ≡ two_digits month →
    get_or text 8 0 ∷ get_or text 9 0 ∷ [] ≡ two_digits day → AreDateParts text year month day
parts_from_reads text century y year month day len four seven hc hy hm hd e ec ey em ed = grind (arith, text_from_reads text (date_text year month day) len)

pub parts_are_one : (y m d y₂ m₂ d₂ : ℕ) → date_text y m d ≡ date_text y₂ m₂ d₂ → (y ≡ y₂) × (m ≡ m₂) × (d ≡ d₂)
parts_are_one y m d y₂ m₂ d₂ e = grind (arith, two_digits_injective)

unfoldable pub date_record : (y m d : ℕ) → IsCivilDate (pos y) m d → Date
date_record y m d h = record { year = pos y; month = m; day = d; year_in = h.0; month_in = h.1; day_in = h.2 }

pub no_date : (text : List ℕ) → ((p : ℕ × ℕ × ℕ) → AreDateParts text p.0 p.1 p.2 → ⊥) → (d : Date) → IsDateText text d → ⊥
no_date text never d t = grind (arith, signed_arith, days_in_month_bounds, civil, never (t.year, d.month, d.day))

pub no_day : (text : List ℕ) → ((d : Date) → IsDateText text d → ⊥) → (n : ℕ) → SpellsDay text n → ⊥
unfolding date_record
no_day text never n s = grind (arith, never (date_record s.year s.month s.day s.real.0))

of_civil : (y m d : ℕ) → IsCivilDate (pos y) m d → IsDate (pos y) (pos m) (pos d)
of_civil y m d h = grind (arith, signed_arith)

pub from_pos : (a b : ℕ) → pos a ≡ pos b → a ≡ b
from_pos a b e = cc

date_by_parts : {E : Type 0} (text : List ℕ) (y m d : ℕ) (r : Result Date E) → AreDateParts text y m d → (IsDate (pos y) (pos m) (pos d) → IsOk r) →
    IfOk r (IsYmd (pos y) (pos m) (pos d)) → Reads (IsDateText text) (result_ok r)
date_by_parts text y m d (Ok date) p can h =
    record {
      year = y;
      same_year = h.0;
      spelling = rw (from_pos _ _ h.1, from_pos _ _ h.2) p.spelling;
    }
date_by_parts text y m d (Err e) p can h = λ date t.
    let same = parts_are_one y m d t.year date.month date.day (sym p.spelling ∙ t.spelling) in
    let P : ℤ → Type 0 = λ year. IsCivilDate year date.month date.day in
    let is : IsCivilDate (pos t.year) date.month date.day = subst P t.same_year (civil date) in
    let error = can (rw (same.0, same.1, same.2) (of_civil t.year date.month date.day is)) in
    cc

pub reads_date : {E : Type 0} (text : List ℕ) (y m d : ℕ) (yz mz dz : ℤ) (r : Result Date E) (o : Option Date) → AreDateParts text y m d → yz ≡ pos y →
    mz ≡ pos m → dz ≡ pos d → (IsDate yz mz dz → IsOk r) → IfOk r (IsYmd yz mz dz) → o ≡ result_ok r → Reads (IsDateText text) o
reads_date text y m d yz mz dz r o p ey em ed can value e =
    rw e (date_by_parts text y m d r p (λ h. can (rw (ey, em, ed) h)) (rw (ey, em, ed) at value))

date_is : (text : List ℕ) (d : Date) (n : ℕ) → IsDateText text d → SpellsDay text n → epoch_day d ≡ pos n
date_is text d n t s = grind (arith, parts_are_one)

pub spells_by_date : (text : List ℕ) (d : Date) → IsDateText text d → (r : Option ℕ) → Reads (λ n. IsDay n × (epoch_day d ≡ pos n)) r → Reads (SpellsDay text) r
spells_by_date text d t r h = grind (arith, civil, date_is)

pub march_year_bounds : (n : ℕ) → IsDay n →
    (3 ≤ march_year n) × (march_year n ≤ 103) × (day_of_march_year n < 366) × (n ≡ 9556 + 365 * march_year n + march_year n / 4 + day_of_march_year n)
march_year_bounds n h = (omega arith, omega arith, omega arith, omega arith)

-- The number of days from 1 March of the year -10000 to 1 March of the year 1996 + `q`, for the
-- years 1999 to 2099.
march_days-1996 : (q : ℕ) → 3 ≤ q → q ≤ 103 → march_days (11996 + q) ≡ 4381449 + 365 * q + q / 4
march_days-1996 q low high = omega arith

days_from_civil-is : (y m d n : ℕ) → day_count (pos y) m d ≡ n + 4371953 → days_from_civil (pos y) m d ≡ pos n
days_from_civil-is y m d n e = omega (arith, signed_arith, days_from_civil-day_count (pos y) m d)

-- The formulas for the month and the day of the month give the date of day `n`, if the month is
-- March to December.
late_date : (q r n : ℕ) → 3 ≤ q → q ≤ 103 → r < 366 → n ≡ 9556 + 365 * q + q / 4 + r → (5 * r + 461) / 153 ≤ 12 →
    IsCivilDate (pos (1996 + q)) ((5 * r + 461) / 153) ((5 * r + 461) % 153 / 5 + 1) ×
    (days_from_civil (pos (1996 + q)) ((5 * r + 461) / 153) ((5 * r + 461) % 153 / 5 + 1) ≡ pos n)
late_date q r n low high small e late =
    let year : pos (1996 + q) +ℤ pos 10000 ≡ pos (11996 + q) = omega (arith, signed_arith) in
    let count = day_count-late (pos (1996 + q)) (11996 + q) ((5 * r + 461) / 153) ((5 * r + 461) % 153 / 5 + 1) year (omega arith) late (omega arith) in
    let before = march_days-1996 q low high in
    let place = month_and_day r small in (
      ((omega (arith, signed_arith), omega (arith, signed_arith)), (omega arith, late), (omega arith, day_in_month (pos (1996 + q)) r late)),
      days_from_civil-is (1996 + q) _ _ n (omega arith),
    )

-- The formulas for the month and the day of the month give the date of day `n`, if the month is
-- January or February.
early_date : (q r n : ℕ) → 3 ≤ q → q ≤ 102 → r < 365 + leap_day (pos (1997 + q)) → r < 366 → n ≡ 9556 + 365 * q + q / 4 + r → 12 < (5 * r + 461) / 153 →
    IsCivilDate (pos (1997 + q)) ((5 * r + 461) / 153 - 12) ((5 * r + 461) % 153 / 5 + 1) ×
    (days_from_civil (pos (1997 + q)) ((5 * r + 461) / 153 - 12) ((5 * r + 461) % 153 / 5 + 1) ≡ pos n)
early_date q r n low high fits small e early =
    let year : pos (1997 + q) +ℤ pos 10000 ≡ pos (suc (11996 + q)) = omega (arith, signed_arith) in
    let back : (5 * r + 461) / 153 - 12 + 12 ≡ (5 * r + 461) / 153 = omega arith in
    let count =
    day_count-early (pos (1997 + q)) (11996 + q) ((5 * r + 461) / 153 - 12) ((5 * r + 461) % 153 / 5 + 1) year (omega arith) (omega arith) (omega arith) in
    let before = march_days-1996 q low (omega arith) in
    let place = month_and_day r small in (
      ((omega (arith, signed_arith), omega (arith, signed_arith)), (omega arith, omega arith), (omega arith, day_in_early_month (pos (1997 + q)) r early fits)),
      days_from_civil-is (1997 + q) _ _ n (rw back at count ∙ omega arith),
    )

dated : (q r n : ℕ) (b : Bool) → nat_lt 12 ((5 * r + 461) / 153) ≡ b → 3 ≤ q → q ≤ 103 → r < 366 → (q % 4 ≢ 3 → r < 365) → n ≤ 47481 →
    n ≡ 9556 + 365 * q + q / 4 + r → IsDateOf (1996 + q + cond b 1 0) (cond b ((5 * r + 461) / 153 - 12) ((5 * r + 461) / 153)) ((5 * r + 461) % 153 / 5 + 1) n
dated q r n true test low high small common last e =
    let early : 12 < (5 * r + 461) / 153 = ltb-true _ _ test in
    let year : 1996 + q + 1 ≡ 1997 + q = omega arith in
    let before : q ≤ 102 = omega arith in
    rw year (early_date q r n low before (grind (arith, nat_tests)) small e early)
dated q r n false test low high small common last e =
    let late : (5 * r + 461) / 153 ≤ 12 = ltb-false _ _ test in
    let year : 1996 + q + 0 ≡ 1996 + q = omega arith in
    rw year (late_date q r n low high small e late)

pub civil_date : (n : ℕ) → IsDay n → IsDateOf (year_of n) (month_of n) (day_of_month n) n
civil_date n h =
    let b = march_year_bounds n h in
    dated (march_year n) (day_of_march_year n) n _ refl b.0 b.1 b.2 (λ common. omega arith) h.1 b.3

-- A day has only one date.
one_date : (n y m d y₂ m₂ d₂ : ℕ) → IsDateOf y m d n → IsDateOf y₂ m₂ d₂ n → (y ≡ y₂) × (m ≡ m₂) × (d ≡ d₂)
unfolding date_record
one_date n y m d y₂ m₂ d₂ a b = grind (arith, epoch_day_injective (date_record y m d a.0) (date_record y₂ m₂ d₂ b.0))

pub date_of_day : (n : ℕ) (d : Date) → IsDay n → epoch_day d ≡ pos n → (d.year ≡ pos (year_of n)) × (d.month ≡ month_of n) × (d.day ≡ day_of_month n)
unfolding date_record
date_of_day n d h e =
    let is = civil_date n h in
    epoch_day_injective d (date_record (year_of n) (month_of n) (day_of_month n) is.0) (e ∙ sym is.1)

pub date_bounds : (n : ℕ) → IsDay n → (2000 ≤ year_of n) × (year_of n ≤ 2099) × (month_of n ≤ 12) × (day_of_month n ≤ 31)
date_bounds n h = grind (arith, march_year_bounds, civil_date, days_in_month_bounds)

pub year_after_cast : (n : ℕ) (d : Date) → IsDay n → epoch_day d ≡ pos n → to_z w16 (of_z w16 d.year) ≡ pos (year_of n)
year_after_cast n d h e = grind (arith, date_bounds, date_of_day, back_small w16)

pub date_text-day_text : (n y m d : ℕ) → IsDay n → IsDateOf y m d n → date_text y m d ≡ day_text n
unfolding day_text
date_text-day_text n y m d h is =
    let same = one_date n y m d (year_of n) (month_of n) (day_of_month n) is (civil_date n h) in
    rw (same.0, same.1, same.2)

pub spells-day_text : (text : List ℕ) (n : ℕ) → SpellsDay text n → text ≡ day_text n
spells-day_text text n s = grind (arith, date_text-day_text)

pub day_text-spells : (n : ℕ) → IsDay n → SpellsDay (day_text n) n
unfolding day_text
day_text-spells n h =
    record {
      year = year_of n;
      month = month_of n;
      day = day_of_month n;
      spelling = refl;
      real = civil_date n h;
      within = h;
    }

-- Different days have different texts.
pub day_text_injective : (a b : ℕ) (xs ys : List ℕ) → IsDay a → IsDay b → day_text a ++ xs ≡ day_text b ++ ys → a ≡ b
unfolding day_text
day_text_injective a b xs ys h k e = grind (arith, two_digits_injective, civil_date, from_pos)

pub two_again : (n : ℕ) → 10 * (48 + n / 10 - 48) + (48 + n % 10 - 48) ≡ n
two_again n = omega arith

pub day_of-day_text : (n : ℕ) (rest : List ℕ) → IsDay n → day_of (day_text n ++ rest) ≡ n
unfolding day_text
day_of-day_text n rest h = grind (arith, two_again, march_year_bounds)

pub moment_of-moment_text : (n : ℕ) → IsMoment n → moment_of (moment_text n) ≡ n
unfolding moment_text day_text
moment_of-moment_text n h = grind (arith, two_again, day_of-day_text)

-- In the text of a moment, the date is the first ten bytes, and the time is the rest.
parts_of : (text : List ℕ) (n : ℕ) (s : SpellsMoment text n) → (take 10 text ≡ s.date) × (drop 10 text ≡ s.time)
parts_of text n s = grind (arith, common_steps)

pub no_day_no_moment : (text : List ℕ) → ((n : ℕ) → SpellsDay (take 10 text) n → ⊥) → (n : ℕ) → SpellsMoment text n → ⊥
no_day_no_moment text never n s = grind (arith, parts_of, never s.day)

pub no_time_no_moment : (text : List ℕ) → ((n : ℕ) → SpellsTime (drop 10 text) n → ⊥) → (n : ℕ) → SpellsMoment text n → ⊥
no_time_no_moment text never n s = grind (arith, parts_of, never s.minute)

pub spells-moment_text : (text : List ℕ) (n : ℕ) → SpellsMoment text n → (text ≡ moment_text n) × IsMoment n
unfolding moment_text
spells-moment_text text n s =
    let day : n / 1440 ≡ s.day = omega (arith, s.number, s.spells_time.number, s.spells_time.hour_within, s.spells_time.minute_within) in
    let hour : n % 1440 / 60 ≡ s.spells_time.hour = omega (arith, s.number, s.spells_time.number, s.spells_time.hour_within, s.spells_time.minute_within) in
    let minute : n % 60 ≡ s.spells_time.minute = omega (arith, s.number, s.spells_time.number, s.spells_time.hour_within, s.spells_time.minute_within) in
    let date : s.date ≡ day_text s.day = spells-day_text s.date s.day s.spells_day in
    (rw (day, hour, minute, s.spelling, date, s.spells_time.spelling) refl, omega (arith, s.spells_day.within))

pub moment_text-spells : (n : ℕ) → IsMoment n → SpellsMoment (moment_text n) n
unfolding moment_text
moment_text-spells n h =
    record {
      date = day_text (n / 1440);
      time = time_text (n % 1440 / 60) (n % 60);
      day = n / 1440;
      minute = n % 1440;
      spelling = refl;
      spells_day = day_text-spells (n / 1440) (omega arith, omega arith);
      spells_time = record {
        hour = n % 1440 / 60;
        minute = n % 60;
        spelling = refl;
        hour_within = omega arith;
        minute_within = omega arith;
        number = omega arith;
      };
      number = omega arith;
    }

-- Different moments have different texts.
pub moment_text_injective : (a b : ℕ) → IsMoment a → IsMoment b → moment_text a ≡ moment_text b → a ≡ b
unfolding moment_text day_text
moment_text_injective a b h k e =
    let day = day_text_injective (a / 1440) (b / 1440) _ _ (omega arith, omega arith) (omega arith, omega arith) e in
    let hour = two_digits_injective (a % 1440 / 60) (b % 1440 / 60) _ _ (ap (drop 11) e) in
    let minute = two_digits_injective (a % 60) (b % 60) [] [] (ap (drop 14) e) in
    omega arith

pub joined_text : (date t₁ t₂ : List ℕ) (day minute n : ℕ) → SpellsDay date day → t₁ ≡ two_digits (minute / 60) → t₂ ≡ two_digits (minute % 60) →
    day ≡ n / 1440 → minute ≡ n % 1440 →
    get_or date 0 0 ∷ get_or date 1 0 ∷ get_or date 2 0 ∷ get_or date 3 0 ∷ get_or date 4 0 ∷ get_or date 5 0 ∷ get_or date 6 0 ∷ get_or date 7 0 ∷ get_or date
    8 0 ∷ get_or date 9 0 ∷ 84 ∷ get_or t₁ 0 0 ∷ get_or t₁ 1 0 ∷ 58 ∷ get_or t₂ 0 0 ∷ get_or t₂ 1 0 ∷ [] ≡ moment_text n
unfolding moment_text
joined_text date t₁ t₂ day minute n s e₁ e₂ ed em =
    let text = spells-day_text date day s in
    grind (arith, s.spelling)

found : {A : Type 0} (Spells : A → Type 0) (guess : A) (test : Bool) → Decides test (Spells guess) → ((x : A) → Spells x → guess ≡ x) → (x : A) →
    (cond test (Some guess) None ≡ Some x) ↔ Spells x
found Spells guess test d same x = grind arith

found_where : {A : Type 0} (text : List ℕ) (Spells Fits : A → Type 0) (guess : List ℕ → A) (text_of : A → List ℕ) (fits : A → Bool) →
    ((x : A) → Decides (fits x) (Fits x)) → ((x : A) → Spells x → Fits x × (text ≡ text_of x)) → ((x : A) → Fits x → text ≡ text_of x → Spells x) →
    ((x : A) → Fits x → guess (text_of x) ≡ x) → (x : A) → (where_spelled text (guess text) (text_of (guess text)) (fits (guess text)) ≡ Some x) ↔ Spells x
found_where text Spells Fits guess text_of fits decides to from again x = grind (arith, found, decides, to, from, again, bytes_eq-Decides)

pub same_reading : {A : Type 0} (Spells : A → Type 0) (found r : Option A) → ((x : A) → (found ≡ Some x) ↔ Spells x) → Reads Spells r → r ≡ found
same_reading Spells found (Some x) agrees h = sym ((agrees x).1 h)
same_reading Spells None None agrees h = refl
same_reading Spells (Some y) None agrees h = absurd (h y ((agrees y).0 refl))

pub reads_days : ReadsDays
unfolding day_of_text day_text
reads_days text =
    found_where text (SpellsDay text) IsDay day_of day_text _ (Decides-range 10957 47481)
    (λ n s. (s.within, spells-day_text text n s))
    (λ n is e. let P : List ℕ → Type 0 = λ t. SpellsDay t n in subst P (sym e) (day_text-spells n is))
    (λ n h. grind (arith, two_again, march_year_bounds))

pub reads_moments : ReadsMoments
unfolding moment_of_text
reads_moments text =
    found_where text (SpellsMoment text) IsMoment moment_of moment_text _ (Decides-range 15_778_080 68_374_079)
    (λ n s. let is = spells-moment_text text n s in (is.1, is.0))
    (λ n is e. let P : List ℕ → Type 0 = λ t. SpellsMoment t n in subst P (sym e) (moment_text-spells n is))
    moment_of-moment_text

pub reads_hours : ReadsHours
unfolding hour_of_text
reads_hours text =
    found_where text (SpellsHour text) IsHour (λ t. two_at t 0) two_digits _ (λ n. Decides-ltb n 24)
    (λ n s. (s.within, s.spelling)) (λ n is e. record { spelling = e; within = is }) (λ n is. two_again n)

pub reads_kinds : ReadsKinds
unfolding kind_of_text
reads_kinds text =
    found_where text (λ kind. text ≡ kind_text kind) (λ _. Unit {0}) candidate_kind kind_text (λ _. true) (λ x. grind arith) (λ kind e. (tt, e)) (λ kind u e. e)
    (λ kind u. grind arith)

pub reads_actions : ReadsActions
unfolding action_of_text
reads_actions text =
    found_where text (λ action. text ≡ action_text action) (λ _. Unit {0}) candidate_action action_text (λ _. true) (λ x. grind arith) (λ action e. (tt, e))
    (λ action u e. e) (λ action u. grind arith)

pub reads_names : ReadsNames
unfolding name_of_text
reads_names text =
    found (λ name. IsName text × (name ≡ text)) text (is_name text)
    (Decides-like _ (λ is. (is, refl)) (λ both. both.0) (Decides-is_name text)) (λ name both. sym both.1)

pub reads_numbers : ReadsNumbers
unfolding decimal_of_text
reads_numbers text n =
    let test = are_few_digits text && not (leads_with_zero text) in
    grind (arith, found (SpellsNumber text) (digits_value 10 text) test (Decides-number text) (value_of-number text) n)
