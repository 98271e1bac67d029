-- Lemmas on digits, the numbers that they encode, names and short strings of bytes, and on Boolean
-- tests. Each test returns true if and only if the property that it tests holds.
use Rattle.std.proofs.Common.{◌≡◌, ℕ, ◌+◌, ◌/◌, ◌%◌, List, ◌++◌, get_or, ap, arith, ◌≤◌, length, drop, ◌<◌, true, ◌^◌, Bool, Result, rules, Decides, nat_le}
use Rattle.std.proofs.{Common.refl, lemmas.Bool.Decides.{nat_tests, Decides-like, Decides-and, Decides-not, Decides-ltb, Decides-eqb, Decides-by_and}}
use Rattle.std.proofs.lemmas.{Bool.Decides.leb_tells, Fmt.{decimal-digits_value, digits_decimal, digits_value-decimal, decimal_nonempty, length-decimal-le}}
use Rattle.std.proofs.lemmas.{Fmt.{first_decimal, decimal_digit}, Grind.common_steps, List.drop-replicate, Str.Parse.{IsNumeralModel, numerals_by_value}}
use Rattle.std.{proofs.lemmas.Str.Parse.{digits_value_short, parse_gives}, specs.{Char.is_ascii_digit, Int.{IsInRange, is_in_range}, List.list_all}}
use Rattle.std.specs.{Prelude.{replicate, ◌==◌, ◌&&◌, not, nat_lt, slice_index}, Result.result_ok, Str.Parse.{digits_value, ParsesUnsigned}}
use Rattle.club_values.specs.{Name.{IsPadded, is_name_byte, IsName}, Number.{two_digits, are_few_digits, number_of_digits, SpellsNumber}}
use Rattle.club_values.specs.computed.TextOf.{is_name}

-- Different numbers have different pairs of digits.
pub two_digits_injective : (a b : ℕ) (xs ys : List ℕ) → two_digits a ++ xs ≡ two_digits b ++ ys → a ≡ b
two_digits_injective a b xs ys e =
    let tens : 48 + a / 10 ≡ 48 + b / 10 = ap (λ (bytes : List ℕ). get_or bytes 0 0) e in
    let ones : 48 + a % 10 ≡ 48 + b % 10 = ap (λ (bytes : List ℕ). get_or bytes 1 0) e in
    omega arith

pub IsPadded-front : (n : ℕ) (bytes front : List ℕ) → length bytes ≤ n → front ≡ bytes → IsPadded {n = n}
    (record { buffer = front ++ drop (length bytes) (replicate n 0); len = length bytes })
IsPadded-front n bytes front h e = grind (arith, common_steps, drop-replicate {X = ℕ} (length bytes) n 0)

abbrev AreDigits : List ℕ → Type 0
AreDigits text = list_all is_ascii_digit text ≡ true

own : IsNumeralModel AreDigits (digits_value 10)
own = numerals_by_value AreDigits (search rules)

record AreFewDigits (text : List ℕ) : Type 0 where
  some : 0 < length text
  few : length text ≤ 9
  digits : AreDigits text

Decides-few_digits : (text : List ℕ) → Decides (are_few_digits text) (AreFewDigits text)
Decides-few_digits text = grind (arith, nat_tests)

value_below : (text : List ℕ) → AreFewDigits text → digits_value 10 text < 10 ^ 9
value_below text h = grind (arith, digits_value_short own text 9)

-- If the text consists of one to nine decimal digits, `parse` returns the number that the text
-- encodes.
pub digits_read : {E : Type 0} (text read : List ℕ) (r : Result ℕ E) → are_few_digits text ≡ true → read ≡ text → ParsesUnsigned 32 10 read r →
    result_ok r ≡ number_of_digits text
digits_read text read r few e parses = grind (arith, Decides-few_digits, value_below, parse_gives own 32 text r)

-- The text has at least two bytes, and the first byte is the digit zero.
abbrev pub leads_with_zero : List ℕ → Bool
leads_with_zero text = nat_lt 1 (length text) && slice_index text 0 == 48

are_digits_of : (text : List ℕ) (n : ℕ) → SpellsNumber text n → AreFewDigits text × (¬ ((1 < length text) × (get_or text 0 0 ≡ 48)))
are_digits_of text n s = grind (arith, decimal_nonempty n, length-decimal-le 9 n, digits_decimal own n, common_steps, first_decimal, decimal_digit)

pub Decides-number : (text : List ℕ) → Decides (are_few_digits text && not (leads_with_zero text)) (SpellsNumber text (digits_value 10 text))
Decides-number text =
    Decides-like _ (λ h. grind (arith, value_below, decimal-digits_value own text)) (are_digits_of text (digits_value 10 text))
    (Decides-and _ _ (Decides-few_digits text) (Decides-not _ (Decides-and _ _ (Decides-ltb 1 (length text)) (Decides-eqb _ 48))))

pub value_of-number : (text : List ℕ) (n : ℕ) → SpellsNumber text n → digits_value 10 text ≡ n
value_of-number text n s = grind (arith, digits_value-decimal own n)

pub Decides-leb : (a b : ℕ) → Decides (nat_le a b) (a ≤ b)
Decides-leb a b = grind (arith, leb_tells a b)

pub Decides-range : (low high n : ℕ) → Decides (is_in_range low high n) (IsInRange low high n)
Decides-range low high n = Decides-and _ _ (Decides-leb low n) (Decides-leb n high)

pub Decides-is_name : (bytes : List ℕ) → Decides (is_name bytes) (IsName bytes)
Decides-is_name bytes =
    let all = Decides-by_and is_name_byte (λ byte. is_name_byte byte ≡ true) (list_all is_name_byte) (λ byte. ((λ e. e), (λ e. e))) refl (λ _ _. refl) bytes in
    Decides-like _ (λ h. record { nonempty = h.0.0.0; short = h.0.0.1; letters = h.0.1; first = h.1 })
    (λ h. (((h.nonempty, h.short), h.letters), h.first))
    (Decides-and _ _ (Decides-and _ _ (Decides-and _ _ (Decides-ltb 0 (length bytes)) (Decides-leb (length bytes) 24)) all) (Decides-not _ (Decides-eqb _ 45)))
