-- Functions that compute the value that a text encodes. `IsName`, `SpellsDay` and similar
-- definitions describe the same values without computing them. The contracts of the parsers use
-- both the functions and the descriptions.
use Rattle.std.specs.{Int.is_in_range, List.list_all, Prelude.{ℕ, ◌+◌, ◌-◌, ◌*◌, ◌/◌, ◌==◌, ◌&&◌, not, Bool, true, List, length, slice_index, nat_lt, nat_le}}
use Rattle.std.specs.{Prelude.{if◌then◌else◌, Option, Some, None}, Str.bytes_eq}
use Rattle.club_values.specs.{Kind.{action_text, kind_text}, Moment.{day_text, first_day, last_day, hours_a_day, moment_text, first_moment, last_moment}}
use Rattle.club_values.specs.{Moment.{minutes_a_day, minutes_an_hour}, Name.{is_name_byte, max_name_len}, Number.{two_digits, number_of_digits}}
use Rattle.club_values.specs.declared.{action.Action.{Action, TheVariants.{View, Book, Cancel, Account}}, kind.Kind.{Kind as AKind, TheVariants.{Court, Boat}}}
use Rattle.club_values.specs.declared.kind.Kind.TheVariants.{Room}

abbrev pub is_name : List ℕ → Bool
is_name bytes =
    nat_lt 0 (length bytes) && nat_le (length bytes) max_name_len && list_all is_name_byte bytes
    && not (slice_index bytes 0 == 45)

-- The number encoded by the two digits that start at index `i` of the text.
abbrev pub two_at : List ℕ → ℕ → ℕ
two_at text i = 10 * (slice_index text i - 48) + (slice_index text (i + 1) - 48)

-- The number of days from 1970-01-01 to a date. The computation uses years that begin on 1 March.
abbrev pub number_of_date : ℕ → ℕ → ℕ → ℕ
number_of_date year month day =
    let years = if nat_lt month 3 then year - 1997 else year - 1996 in
    let march_month = if nat_lt month 3 then month + 12 else month in
    9556 + 365 * years + years / 4 + (153 * march_month - 457) / 5 + (day - 1)

-- The day or the moment that the digits at the start of the text encode. `day_of` and `moment_of`
-- don't check the text.
abbrev pub day_of : List ℕ → ℕ
day_of text = number_of_date (100 * two_at text 0 + two_at text 2) (two_at text 5) (two_at text 8)

abbrev pub moment_of : List ℕ → ℕ
moment_of text = day_of text * minutes_a_day + two_at text 11 * minutes_an_hour + two_at text 14

abbrev pub candidate_kind : List ℕ → AKind
candidate_kind text = if slice_index text 0 == 99 then Court else (if slice_index text 0 == 98 then Boat else Room)

abbrev pub candidate_action : List ℕ → Action
candidate_action text =
    if slice_index text 0 == 118 then View
    else (if slice_index text 0 == 98 then Book
    else (if slice_index text 0 == 99 then Cancel else Account))

-- Returns `value` if `fits` is true and `text` equals `spelled`, the text of the value. Returns
-- `None` otherwise.
abbrev pub where_spelled : {A : Type 0} → List ℕ → A → List ℕ → Bool → Option A
where_spelled text value spelled fits = if fits && bytes_eq text spelled then Some value else None

unfoldable pub name_of_text : List ℕ → Option (List ℕ)
name_of_text text = if is_name text then Some text else None

-- The number encoded by one to nine decimal digits without leading zeros, or `None` for any other
-- text.
unfoldable pub decimal_of_text : List ℕ → Option ℕ
decimal_of_text text = if nat_lt 1 (length text) && slice_index text 0 == 48 then None else number_of_digits text

unfoldable pub day_of_text : List ℕ → Option ℕ
day_of_text text = where_spelled text (day_of text) (day_text (day_of text)) (is_in_range first_day last_day (day_of text))

unfoldable pub moment_of_text : List ℕ → Option ℕ
moment_of_text text =
    where_spelled text (moment_of text) (moment_text (moment_of text)) (is_in_range first_moment last_moment (moment_of text))

unfoldable pub hour_of_text : List ℕ → Option ℕ
hour_of_text text = where_spelled text (two_at text 0) (two_digits (two_at text 0)) (nat_lt (two_at text 0) hours_a_day)

unfoldable pub kind_of_text : List ℕ → Option AKind
kind_of_text text = where_spelled text (candidate_kind text) (kind_text (candidate_kind text)) true

unfoldable pub action_of_text : List ℕ → Option Action
action_of_text text = where_spelled text (candidate_action text) (action_text (candidate_action text)) true
