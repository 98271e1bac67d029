-- Defines the lines of the caveat language, and the requests that each line allows. This project
-- designed the caveat language. The law `tests_the_set` states that the function `permits` agrees
-- with the definition `Permits`.
use Rattle.std.specs.{Fmt.decimal, List.list_any, Option.option_map_or, Prelude.{◌≡◌, ◌≢◌, ◌⊎◌, ℕ, ◌+◌, ◌<◌, ◌≤◌, IsTrue, List, [], ◌∷◌, ◌++◌, length}}
use Rattle.std.specs.{Prelude.{Contains, Some, IsSomeAnd, codes, ⊤, ◌==◌, ◌&&◌, ◌||◌, Bool, true, false, nat_lt, nat_le, Option, is_some}, Str.bytes_eq}
use Rattle.club_values.specs.{Kind.{kind_text, weekday_of}, Moment.{IsDay, day_text, hours_a_day, IsMoment, moment_text, guests_limit}, Number.two_digits}
use Rattle.club_values.specs.{Number.number_limit, declared.{kind.Kind.{Kind as AKind, TheVariants.{Court, Boat, Room}}, slot.Slot.Slot}}
use Rattle.pass_caveats.specs.{Choices.{has_action, action_texts, AreNames, comma_list, has_weekday, weekday_texts}, declared.ask.Ask.Ask}
use Rattle.pass_caveats.specs.declared.caveat.Caveat.{Caveat, TheVariants.{Facility, Kind, Hours, Days, Weekdays, Until, Guests, Spend, Actions}}

-- A row of the table that defines the caveat language. A row contains a caveat's line, the
-- conditions on the caveat's values, and the requests that the caveat allows.
pub record CaveatRow : Type 1 where
  pub text : List ℕ
  pub IsReal : Type 0
  pub IsAllowed : Ask → Type 0

abbrev pub row : List ℕ → Type 0 → (Ask → Type 0) → CaveatRow
row text IsReal IsAllowed = record { text = text; IsReal = IsReal; IsAllowed = IsAllowed }

-- Returns the row of a caveat. There is one case for each kind of caveat.
abbrev pub caveat_row : Caveat → CaveatRow
caveat_row (Facility names) =
    row (codes "facility = " ++ comma_list names) (AreNames names) (λ ask. IsSomeAnd ask.slot (λ slot. Contains names slot.facility))
caveat_row (Kind kind) = row (codes "kind = " ++ kind_text kind) ⊤ (λ ask. IsSomeAnd ask.slot (λ _. ask.kind ≡ Some kind))
caveat_row (Hours from until) =
    row (codes "hours = " ++ (two_digits from ++ 45 ∷ two_digits until)) ((from < until) × (until ≤ hours_a_day))
    (λ ask. IsSomeAnd ask.slot (λ slot. (from ≤ slot.hour) × (slot.hour < until)))
caveat_row (Days first last) =
    row (codes "days = " ++ (day_text first ++ (codes ".." ++ day_text last))) (IsDay first × IsDay last × (first ≤ last))
    (λ ask. IsSomeAnd ask.slot (λ slot. (first ≤ slot.day) × (slot.day ≤ last)))
caveat_row (Weekdays set) =
    row (codes "weekday = " ++ comma_list (weekday_texts set)) (weekday_texts set ≢ [])
    (λ ask. IsSomeAnd ask.slot (λ slot. IsTrue (has_weekday set (weekday_of slot.day))))
caveat_row (Until moment) = row (codes "until < " ++ moment_text moment) (IsMoment moment) (λ ask. ask.moment < moment)
caveat_row (Guests n) = row (codes "guests <= " ++ decimal n) (n ≤ guests_limit) (λ ask. ask.guests ≤ n)
caveat_row (Spend n) =
    row (codes "spend <= " ++ decimal n) (n ≤ number_limit) (λ ask. (ask.owed ≡ 0) ⊎ (ask.spent + ask.owed ≤ n))
caveat_row (Actions actions) =
    row (codes "actions = " ++ comma_list (action_texts actions)) (action_texts actions ≢ [])
    (λ ask. IsTrue (has_action actions ask.action))

-- The values of the caveat meet the conditions of the caveat's row.
abbrev pub IsCaveat : Caveat → Type 0
IsCaveat caveat = (caveat_row caveat).IsReal

-- Returns the line of a caveat, including the caveat's values.
abbrev pub caveat_text : Caveat → List ℕ
caveat_text caveat = (caveat_row caveat).text

-- The caveat allows the request.
abbrev pub Permits : Caveat → Ask → Type 0
Permits caveat ask = (caveat_row caveat).IsAllowed ask

-- The text is the line of the caveat, and the caveat's values are valid.
pub record SpellsCaveat (text : List ℕ) (caveat : Caveat) : Type 0 where
  pub real : IsCaveat caveat
  pub spelling : text ≡ caveat_text caveat

-- The maximum length of an understood caveat, in bytes.
abbrev pub max_caveat_len : ℕ
max_caveat_len = 256

-- The text is understood as this caveat. The text is the caveat's line, and the length of the text
-- is within the limit.
pub record Understood (text : List ℕ) (caveat : Caveat) : Type 0 where
  pub line : SpellsCaveat text caveat
  pub short : length text ≤ max_caveat_len

-- Returns true if the request is for a slot and `test` returns true for this slot.
abbrev pub in_slot : (Slot → Bool) → Ask → Bool
in_slot test ask = option_map_or test ask.slot false

-- Returns true if the facility's kind is known and equals the given kind.
abbrev pub is_kind : Option AKind → AKind → Bool
is_kind (Some Court) Court = true
is_kind (Some Boat) Boat = true
is_kind (Some Room) Room = true
is_kind known kind = false

unfoldable pub permits : Caveat → Ask → Bool
permits (Facility names) ask = in_slot (λ slot. list_any (λ name. bytes_eq name slot.facility) names) ask
permits (Kind kind) ask = is_some ask.slot && is_kind ask.kind kind
permits (Hours from until) ask = in_slot (λ slot. nat_le from slot.hour && nat_lt slot.hour until) ask
permits (Days first last) ask = in_slot (λ slot. nat_le first slot.day && nat_le slot.day last) ask
permits (Weekdays set) ask = in_slot (λ slot. has_weekday set (weekday_of slot.day)) ask
permits (Until moment) ask = nat_lt ask.moment moment
permits (Guests n) ask = nat_le ask.guests n
permits (Spend n) ask = ask.owed == 0 || nat_le (ask.spent + ask.owed) n
permits (Actions actions) ask = has_action actions ask.action
