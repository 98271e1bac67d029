-- Defines a parser of caveats. A law states that the parser agrees with the definition
-- `Understood`.
use Rattle.std.specs.{Int.is_in_range, List.list_all, Prelude.{ℕ, ◌==◌, ◌&&◌, Bool, true, false, List, [], ◌∷◌, length, drop, slice_index, slice_index_or, map}}
use Rattle.std.specs.{Prelude.{nat_lt, nat_le, if◌then◌else◌, Option, Some, None}, Str.{bytes_eq, Parse.digits_value}}
use Rattle.club_values.specs.{Kind.{action_text, weekdays}, Moment.{first_day, last_day, hours_a_day, first_moment, last_moment, guests_limit}}
use Rattle.club_values.specs.{Number.number_limit, computed.TextOf.{two_at, day_of, moment_of, candidate_kind, is_name}}
use Rattle.pass_caveats.specs.{Caveat.{caveat_text, max_caveat_len}, Choices.{all_actions, action_texts, max_names, comma_parts, weekday_text, weekday_texts}}
use Rattle.pass_caveats.specs.declared.{actions.Actions.Actions as SomeActions, caveat.Caveat.{Caveat, TheVariants.{Facility, Kind, Hours, Days, Weekdays}}}
use Rattle.pass_caveats.specs.declared.{caveat.Caveat.TheVariants.{Until, Guests, Spend, Actions}, weekdays.Weekdays.Weekdays as SomeWeekdays}

-- Returns true if the first part equals the word.
abbrev pub is_next : List ℕ → List (List ℕ) → Bool
is_next word [] = false
is_next word (part ∷ parts) = bytes_eq part word

-- Removes the first part if the first part equals the word. Returns the remaining parts.
abbrev pub after_next : List ℕ → List (List ℕ) → List (List ℕ)
after_next word [] = []
after_next word (part ∷ parts) = if bytes_eq part word then parts else part ∷ parts

-- Returns a flag for each word, in order. The flag is true if the first remaining part equals the
-- word. In this case, the function removes that part before it looks for the next word.
abbrev pub words_found : List (List ℕ) → List (List ℕ) → List Bool
words_found [] parts = []
words_found (word ∷ words) parts = is_next word parts ∷ words_found words (after_next word parts)

-- Returns the set of the actions whose flags are true.
abbrev pub actions_from : List Bool → SomeActions
actions_from found =
    let at : ℕ → Bool = λ i. slice_index_or found i false in
    record { view = at 0; book = at 1; cancel = at 2; account = at 3 }

abbrev pub weekdays_from : List Bool → SomeWeekdays
weekdays_from found =
    let at : ℕ → Bool = λ i. slice_index_or found i false in
    record { monday = at 0; tuesday = at 1; wednesday = at 2; thursday = at 3; friday = at 4; saturday = at 5; sunday = at 6 }

abbrev pub actions_of : List ℕ → SomeActions
actions_of text = actions_from (words_found (map action_text all_actions) (comma_parts text))

abbrev pub weekdays_of : List ℕ → SomeWeekdays
weekdays_of text = weekdays_from (words_found (map weekday_text weekdays) (comma_parts text))

-- Returns the only caveat that the text can represent. The first letter of the text determines the
-- kind of caveat.
unfoldable pub candidate : List ℕ → Caveat
candidate text =
    let first = slice_index text 0 in
    if first == 102 then Facility (comma_parts (drop 11 text))
    else (if first == 107 then Kind (candidate_kind (drop 7 text))
    else (if first == 104 then Hours (two_at text 8) (two_at text 11)
    else (if first == 100 then Days (day_of (drop 7 text)) (day_of (drop 19 text))
    else (if first == 119 then Weekdays (weekdays_of (drop 10 text))
    else (if first == 117 then Until (moment_of (drop 8 text))
    else (if first == 103 then Guests (digits_value 10 (drop 10 text))
    else (if first == 115 then Spend (digits_value 10 (drop 9 text))
    else Actions (actions_of (drop 10 text)))))))))

-- Returns true if the values of the caveat are within their limits.
abbrev pub is_caveat : Caveat → Bool
is_caveat (Facility names) = nat_lt 0 (length names) && nat_le (length names) max_names && list_all is_name names
is_caveat (Kind kind) = true
is_caveat (Hours from until) = nat_lt from until && nat_le until hours_a_day
is_caveat (Days first last) = is_in_range first_day last_day first && is_in_range first_day last_day last && nat_le first last
is_caveat (Weekdays set) = nat_lt 0 (length (weekday_texts set))
is_caveat (Until moment) = is_in_range first_moment last_moment moment
is_caveat (Guests n) = nat_le n guests_limit
is_caveat (Spend n) = nat_le n number_limit
is_caveat (Actions actions) = nat_lt 0 (length (action_texts actions))

abbrev pub spells : List ℕ → Caveat → Bool
spells text caveat = is_caveat caveat && bytes_eq text (caveat_text caveat) && nat_le (length text) max_caveat_len

-- Returns the caveat that the text represents, or `None` if the text isn't understood.
unfoldable pub caveat_of : List ℕ → Option Caveat
caveat_of text = if spells text (candidate text) then Some (candidate text) else None
