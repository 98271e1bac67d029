-- Laws about the values that texts encode.
use Rattle.std.specs.Prelude.{◌≡◌, ◌↔◌, ℕ, List, Some}
use Rattle.club_values.specs.{Kind.{action_text, kind_text}, Moment.{IsDay, SpellsDay, day_text, SpellsHour, IsMoment, SpellsMoment, moment_text}, Name.IsName}
use Rattle.club_values.specs.{Number.SpellsNumber, computed.TextOf.{name_of_text, decimal_of_text, kind_of_text, action_of_text, day_of_text, hour_of_text}}
use Rattle.club_values.specs.{computed.TextOf.moment_of_text, declared.{action.Action.Action, kind.Kind.Kind}}

-- Each function `.._of_text` returns a value if and only if the text encodes this value. In these
-- laws, the text may be any list of natural numbers. If the text is a name, the value is the text
-- itself.
abbrev pub ReadsNames : Type 0
ReadsNames = (text name : List ℕ) → (name_of_text text ≡ Some name) ↔ (IsName text × (name ≡ text))

abbrev pub ReadsNumbers : Type 0
ReadsNumbers = (text : List ℕ) (n : ℕ) → (decimal_of_text text ≡ Some n) ↔ SpellsNumber text n

abbrev pub ReadsKinds : Type 0
ReadsKinds = (text : List ℕ) (kind : Kind) → (kind_of_text text ≡ Some kind) ↔ (text ≡ kind_text kind)

abbrev pub ReadsActions : Type 0
ReadsActions = (text : List ℕ) (action : Action) → (action_of_text text ≡ Some action) ↔ (text ≡ action_text action)

abbrev pub ReadsDays : Type 0
ReadsDays = (text : List ℕ) (n : ℕ) → (day_of_text text ≡ Some n) ↔ SpellsDay text n

abbrev pub ReadsHours : Type 0
ReadsHours = (text : List ℕ) (n : ℕ) → (hour_of_text text ≡ Some n) ↔ SpellsHour text n

abbrev pub ReadsMoments : Type 0
ReadsMoments = (text : List ℕ) (n : ℕ) → (moment_of_text text ≡ Some n) ↔ SpellsMoment text n

-- A text encodes a day if and only if `day_text` returns this text for the day.
abbrev pub IsTextOfDay : Type 0
IsTextOfDay = (text : List ℕ) (n : ℕ) → SpellsDay text n ↔ (IsDay n × (text ≡ day_text n))

-- A text encodes a moment if and only if `moment_text` returns this text for the moment.
abbrev pub IsTextOfMoment : Type 0
IsTextOfMoment = (text : List ℕ) (n : ℕ) → SpellsMoment text n ↔ (IsMoment n × (text ≡ moment_text n))

-- Different days have different texts. Different moments have different texts.
abbrev pub DistinctDayTexts : Type 0
DistinctDayTexts = (a b : ℕ) → IsDay a → IsDay b → day_text a ≡ day_text b → a ≡ b

abbrev pub DistinctMomentTexts : Type 0
DistinctMomentTexts = (a b : ℕ) → IsMoment a → IsMoment b → moment_text a ≡ moment_text b → a ≡ b
