-- The texts of actions and of the kinds of facilities, and the days of the week.
use Rattle.std.specs.Prelude.{ℕ, List, codes, ◌+◌, ◌%◌, [], ◌∷◌, slice_index_or}
use Rattle.club_values.specs.declared.{action.Action.{Action, TheVariants.{View, Book, Cancel, Account}}, kind.Kind.{Kind, TheVariants.{Court, Boat, Room}}}
use Rattle.jiff_core.specs.declared.civil.weekday.Weekday.{Weekday, TheVariants.{Monday, Tuesday, Wednesday, Thursday, Friday, Saturday, Sunday}}

abbrev pub action_text : Action → List ℕ
action_text View = codes "view"
action_text Book = codes "book"
action_text Cancel = codes "cancel"
action_text Account = codes "account"

abbrev pub kind_text : Kind → List ℕ
kind_text Court = codes "court"
kind_text Boat = codes "boat"
kind_text Room = codes "room"

-- All weekdays, in the order of ISO 8601: Monday comes first.
abbrev pub weekdays : List Weekday
weekdays = Monday ∷ Tuesday ∷ Wednesday ∷ Thursday ∷ Friday ∷ Saturday ∷ Sunday ∷ []

-- The weekday of a day. Day 0 is 1970-01-01, which was a Thursday.
abbrev pub weekday_of : ℕ → Weekday
weekday_of n = slice_index_or weekdays ((n + 3) % 7) Monday
