-- Numbers of at most nine decimal digits, numbers written with a fixed number of digits, and the
-- result of parsing a text.
use Rattle.std.specs.{Char.is_ascii_digit, Fmt.decimal, List.list_all, Prelude.{ℕ, ◌+◌, ◌/◌, ◌%◌, List, [], ◌∷◌, ◌++◌, ◌≡◌, ◌≤◌, ◌&&◌, Bool, length, nat_lt}}
use Rattle.std.specs.{Prelude.{nat_le, if◌then◌else◌, Option, Some, None, MatchOption}, Str.Parse.digits_value}

-- The two decimal digits of a number below 100.
abbrev pub two_digits : ℕ → List ℕ
two_digits n = (48 + n / 10) ∷ (48 + n % 10) ∷ []

-- The four decimal digits of a number below 10,000.
abbrev pub four_digits : ℕ → List ℕ
four_digits n = two_digits (n / 100) ++ two_digits (n % 100)

-- A number has at most nine digits, so the greatest number is 999,999,999.
abbrev pub max_digits : ℕ
max_digits = 9

abbrev pub number_limit : ℕ
number_limit = 999_999_999

abbrev pub are_few_digits : List ℕ → Bool
are_few_digits text = nat_lt 0 (length text) && nat_le (length text) max_digits && list_all is_ascii_digit text

-- The number encoded by one to nine decimal digits, or `None` for any other text. Leading zeros are
-- allowed.
abbrev pub number_of_digits : List ℕ → Option ℕ
number_of_digits text = if are_few_digits text then Some (digits_value 10 text) else None

-- The text consists of the decimal digits of the number `n`, without leading zeros. The number is
-- at most 999,999,999.
pub record SpellsNumber (text : List ℕ) (n : ℕ) : Type 0 where
  pub spelling : text ≡ decimal n
  pub within : n ≤ number_limit

-- The result of a parser is a value that the text encodes, or `None`. The result is `None` if and
-- only if the text encodes no value.
abbrev pub Reads : {A : Type 0} → (A → Type 0) → Option A → Type 0
Reads {A} Spelled result = MatchOption result ((x : A) → ¬ (Spelled x)) Spelled
