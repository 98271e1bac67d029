-- Hours, days, dates, moments and their texts, and slots. A moment is a minute on the club's clock.
-- A slot is one hour at one facility on one day.
use Rattle.std.specs.Prelude.{◌≡◌, ℕ, ◌<◌, List, ◌+◌, ◌-◌, ◌*◌, ◌/◌, ◌%◌, ◌≤◌, ◌∷◌, ◌++◌, nat_lt, if◌then◌else◌, pos}
use Rattle.club_values.specs.{Number.{two_digits, four_digits}, declared.slot.Slot.Slot}
use Rattle.jiff_core.specs.{Calendar.{IsCivilDate, days_from_civil}, declared.civil.date.Date.Date}

abbrev pub hours_a_day : ℕ
hours_a_day = 24

-- The number is an hour of a day, from 0 to 23.
abbrev pub IsHour : ℕ → Type 0
IsHour n = n < hours_a_day

-- The text is the two digits of an hour, from `00` to `23`.
pub record SpellsHour (text : List ℕ) (n : ℕ) : Type 0 where
  pub spelling : text ≡ two_digits n
  pub within : IsHour n

-- The first supported day is 2000-01-01, and the last supported day is 2099-12-31. Each day is
-- represented by the number of days since 1970-01-01.
abbrev pub first_day : ℕ
first_day = 10_957

abbrev pub last_day : ℕ
last_day = 47_481

abbrev pub IsDay : ℕ → Type 0
IsDay n = (first_day ≤ n) × (n ≤ last_day)

-- The text `YYYY-MM-DD` of a date (RFC 3339, full-date).
abbrev pub date_text : ℕ → ℕ → ℕ → List ℕ
date_text year month day = four_digits year ++ 45 ∷ two_digits month ++ 45 ∷ two_digits day

-- The date exists in the proleptic Gregorian calendar, and `n` is the number of days from
-- 1970-01-01 to the date. The calendar is defined in `jiff_core`.
abbrev pub IsDateOf : ℕ → ℕ → ℕ → ℕ → Type 0
IsDateOf year month day n = IsCivilDate (pos year) month day × (days_from_civil (pos year) month day ≡ pos n)

-- The text encodes a real date from 2000 to 2099, and `n` is the number of days from 1970-01-01 to
-- this date.
pub record SpellsDay (text : List ℕ) (n : ℕ) : Type 0 where
  pub year : ℕ
  pub month : ℕ
  pub day : ℕ
  pub spelling : text ≡ date_text year month day
  pub real : IsDateOf year month day n
  pub within : IsDay n

-- The text has the form `YYYY-MM-DD`, with these numbers as its year, month and day.
pub record AreDateParts (text : List ℕ) (year month day : ℕ) : Type 0 where
  pub short_year : year < 10000
  pub short_month : month < 100
  pub short_day : day < 100
  pub spelling : text ≡ date_text year month day

-- The text encodes this date in the form `YYYY-MM-DD`, and the year of the date isn't negative.
pub record IsDateText (text : List ℕ) (date : Date) : Type 0 where
  pub year : ℕ
  pub same_year : date.year ≡ pos year
  pub spelling : text ≡ date_text year date.month date.day

-- `march_year` and the functions below compute the date of a day. These functions use years that
-- begin on 1 March, so a leap day is always the last day of its year. Day 9556 is 1996-03-01. The
-- function `march_year` returns the number of complete years since 1996-03-01.
abbrev pub march_year : ℕ → ℕ
march_year n = (4 * (n - 9556) + 3) / 1461

-- The number of days since the most recent 1 March.
abbrev pub day_of_march_year : ℕ → ℕ
day_of_march_year n = n - 9556 - 1461 * march_year n / 4

-- The month, numbered from 3 (March) to 14. January is month 13, and February is month 14.
abbrev pub march_month : ℕ → ℕ
march_month n = (5 * day_of_march_year n + 461) / 153

abbrev pub year_of : ℕ → ℕ
year_of n = 1996 + march_year n + (if nat_lt 12 (march_month n) then 1 else 0)

abbrev pub month_of : ℕ → ℕ
month_of n = if nat_lt 12 (march_month n) then march_month n - 12 else march_month n

abbrev pub day_of_month : ℕ → ℕ
day_of_month n = (5 * day_of_march_year n + 461) % 153 / 5 + 1

-- The text `YYYY-MM-DD` of a day. Each day has exactly one text.
unfoldable pub day_text : ℕ → List ℕ
day_text n = date_text (year_of n) (month_of n) (day_of_month n)

abbrev pub minutes_an_hour : ℕ
minutes_an_hour = 60

abbrev pub minutes_a_day : ℕ
minutes_a_day = hours_a_day * minutes_an_hour

-- The first moment is 2000-01-01T00:00, and the last moment is 2099-12-31T23:59. Each moment is
-- represented by the number of minutes since 1970-01-01T00:00.
abbrev pub first_moment : ℕ
first_moment = first_day * minutes_a_day

abbrev pub last_moment : ℕ
last_moment = last_day * minutes_a_day + (minutes_a_day - 1)

abbrev pub IsMoment : ℕ → Type 0
IsMoment n = (first_moment ≤ n) × (n ≤ last_moment)

-- The text `THH:MM` of an hour and a minute.
abbrev pub time_text : ℕ → ℕ → List ℕ
time_text hour minute = 84 ∷ two_digits hour ++ 58 ∷ two_digits minute

-- The text has the form `THH:MM`, and `n` is the number of minutes since the day began. The hour is
-- from 0 to 23, and the minute is from 0 to 59.
pub record SpellsTime (text : List ℕ) (n : ℕ) : Type 0 where
  pub hour : ℕ
  pub minute : ℕ
  pub spelling : text ≡ time_text hour minute
  pub hour_within : hour < hours_a_day
  pub minute_within : minute < minutes_an_hour
  pub number : n ≡ hour * minutes_an_hour + minute

-- The text `YYYY-MM-DDTHH:MM` (ISO 8601) encodes the moment `n`.
pub record SpellsMoment (text : List ℕ) (n : ℕ) : Type 0 where
  pub date : List ℕ
  pub time : List ℕ
  pub day : ℕ
  pub minute : ℕ
  pub spelling : text ≡ date ++ time
  pub spells_day : SpellsDay date day
  pub spells_time : SpellsTime time minute
  pub number : n ≡ day * minutes_a_day + minute

-- The text `YYYY-MM-DDTHH:MM` of a moment. Each moment has exactly one text.
unfoldable pub moment_text : ℕ → List ℕ
moment_text n =
    day_text (n / minutes_a_day) ++ time_text (n % minutes_a_day / minutes_an_hour) (n % minutes_an_hour)

-- The number of minutes from 1970-01-01T00:00 to the start of a slot.
abbrev pub start_of : Slot → ℕ
start_of slot = slot.day * minutes_a_day + slot.hour * minutes_an_hour

-- The maximum number of guests in a booking.
abbrev pub guests_limit : ℕ
guests_limit = 49
