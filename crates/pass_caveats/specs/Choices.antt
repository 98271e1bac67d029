-- Defines comma-separated lists in a caveat: lists of names, sets of actions and sets of weekdays.
use Rattle.std.specs.{List.{slice_split, join_with_byte}, Prelude.{ℕ, ◌<◌, ◌≤◌, List, length, All, ◌≡◌, ◌≢◌, ◌==◌, Bool, true, false, [], ◌∷◌, Option, Some}}
use Rattle.std.specs.Prelude.{None, filter, map, codes}
use Rattle.club_values.specs.{Kind.{action_text, weekdays}, Name.IsName, declared.action.Action.{Action, TheVariants.{View, Book, Cancel, Account}}}
use Rattle.jiff_core.specs.declared.civil.weekday.Weekday.{Weekday, TheVariants.{Monday, Tuesday, Wednesday, Thursday, Friday, Saturday, Sunday}}
use Rattle.pass_caveats.specs.declared.{actions.Actions.Actions, weekdays.Weekdays.Weekdays}

-- The maximum number of names in a caveat.
abbrev pub max_names : ℕ
max_names = 8

-- The list contains at least one name and at most `max_names` names.
pub record AreNames (names : List (List ℕ)) : Type 0 where
  pub some : 0 < length names
  pub few : length names ≤ max_names
  pub each_is_name : All IsName names

-- Splits a text at its commas.
abbrev pub comma_parts : List ℕ → List (List ℕ)
comma_parts text = slice_split (λ byte. byte == 44) text

-- Joins texts with commas.
abbrev pub comma_list : List (List ℕ) → List ℕ
comma_list parts = join_with_byte 44 parts

-- Splits the remaining text at its commas. Returns no parts if there is no remaining text.
abbrev pub parts_left : Option (List ℕ) → List (List ℕ)
parts_left None = []
parts_left (Some text) = comma_parts text

-- The result of comparing the first part with a word. If the flag is true, the first part equals
-- the word, and `left` contains the other parts. If the flag is false, the first part doesn't equal
-- the word, and `left` contains all parts.
abbrev pub Skips : List ℕ → List (List ℕ) → Bool → List (List ℕ) → Type 0
Skips word parts true left = parts ≡ word ∷ left
Skips word parts false left = (left ≡ parts) × ((others : List (List ℕ)) → parts ≢ word ∷ others)

-- All actions, in the order in which a caveat must list them.
abbrev pub all_actions : List Action
all_actions = View ∷ Book ∷ Cancel ∷ Account ∷ []

abbrev pub has_action : Actions → Action → Bool
has_action actions View = actions.view
has_action actions Book = actions.book
has_action actions Cancel = actions.cancel
has_action actions Account = actions.account

-- Returns the texts of the actions in the set, in the order of `all_actions`.
abbrev pub action_texts : Actions → List (List ℕ)
action_texts actions = map action_text (filter (has_action actions) all_actions)

-- The text is a comma-separated list of the actions in the set. The set isn't empty.
abbrev pub SpellsActions : List ℕ → Actions → Type 0
SpellsActions text actions = (action_texts actions ≢ []) × (text ≡ comma_list (action_texts actions))

-- Returns the text of a weekday in a caveat.
abbrev pub weekday_text : Weekday → List ℕ
weekday_text Monday = codes "mon"
weekday_text Tuesday = codes "tue"
weekday_text Wednesday = codes "wed"
weekday_text Thursday = codes "thu"
weekday_text Friday = codes "fri"
weekday_text Saturday = codes "sat"
weekday_text Sunday = codes "sun"

abbrev pub has_weekday : Weekdays → Weekday → Bool
has_weekday set Monday = set.monday
has_weekday set Tuesday = set.tuesday
has_weekday set Wednesday = set.wednesday
has_weekday set Thursday = set.thursday
has_weekday set Friday = set.friday
has_weekday set Saturday = set.saturday
has_weekday set Sunday = set.sunday

-- Returns the texts of the weekdays in the set, in the order of the week.
abbrev pub weekday_texts : Weekdays → List (List ℕ)
weekday_texts set = map weekday_text (filter (has_weekday set) weekdays)

-- The text is a comma-separated list of the weekdays in the set. The set isn't empty.
abbrev pub SpellsWeekdays : List ℕ → Weekdays → Type 0
SpellsWeekdays text set = (weekday_texts set ≢ []) × (text ≡ comma_list (weekday_texts set))
