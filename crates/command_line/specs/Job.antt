-- This file defines the job that arguments ask for, and laws about it. A job is a command with the
-- values of its arguments.
use Rattle.clap.specs.declared.error.kind.ErrorKind.TheVariants as kind
use Rattle.std.specs.{Option.ok_or, Prelude.{◌≡◌, ◌⊎◌, List, [], Option, Some, None, Result, Ok, Err, codes, ◌∷◌, IsSome, map, true}}
use Rattle.clap.specs.{Words.{Row, Text, kind_of}, declared.error.kind.ErrorKind.ErrorKind}
use Rattle.command_line.specs.{Arguments.{HasText, IsRefusedAs, value_in, form_named}, Given.{AreSpelled, Given, can_be_given, found_given, rule_given}}
use Rattle.command_line.specs.{Table.{Table, asked, refusals, Entry, entry_named}, declared.errors.ArgumentsFault.{ArgumentsFault, TheVariants.Refused}}
use Rattle.command_line.specs.declared.{errors.ArgumentsFault.TheVariants.{BadValue, Memory}, job.Asked.{Asked, TheVariants.{ShowText, Perform}}}
use Rattle.pass_forms.specs.declared.form.Form.{Form}

-- The reason why a command's arguments ask for no job: an error of clap, or an invalid argument.
pub data Refusal (V : Type 0) : Type 0 where
  refused_as : ErrorKind → Refusal V
  bad_value : V → Refusal V

-- The bind operator of `Result`, which works like `?` in code.
infixl 10 ◌>>=◌
abbrev pub ◌>>=◌ : {A B V : Type 0} → Result A (Refusal V) → (A → Result B (Refusal V)) → Result B (Refusal V)
Ok x >>= f = f x
Err refusal >>= f = Err refusal

-- `JobOf` is the type of a function that takes a command and the rows found by clap, and returns a
-- job or a refusal.
abbrev pub JobOf : Type 0 → Type 0 → Type 0 → Type 0
JobOf C J V = C → List Row → Result J (Refusal V)

-- The form that `--form` names.
abbrev pub form_given : {V : Type 0} → List Row → Result Form (Refusal V)
form_given rows = ok_or (form_named (value_in (codes "form") rows)) (refused_as kind.InvalidValue)

-- A call returns the expected job or fault, or runs out of memory.
abbrev pub Answers : {A V : Type 0} → Result A (Refusal V) → Result A (ArgumentsFault V) → Type 0
Answers expected (Ok answer) = expected ≡ Ok answer
Answers expected (Err (Refused error)) = expected ≡ Err (refused_as (kind_of error))
Answers expected (Err (BadValue value)) = expected ≡ Err (bad_value value)
Answers expected (Err Memory) = Unit {0}

-- `ReadsRow` is the type of a relation between a command, the rows that clap found, and a result
-- that a call may return.
abbrev pub ReadsRow : Type 0 → Type 0 → Type 0 → Type 1
ReadsRow C J V = C → List Row → Result J (ArgumentsFault V) → Type 0

-- Clap found a command, and a call that reads the command's values may return the result.
abbrev pub ReadsFound : {C J V : Type 0} → ReadsRow C J V → Option (C × List Row) → Result J (ArgumentsFault V) → Type 0
ReadsFound Reads None result = ⊥
ReadsFound Reads (Some row) result = Reads row.0 row.1 result

-- Clap accepts the arguments. The arguments name a command, and a call that reads the command's
-- values may return the result.
abbrev pub ReadsAccepted : {C J V : Type 0} → Table C → ReadsRow C J V → List Text → Result J (ArgumentsFault V) → Type 0
ReadsAccepted table Reads arguments result = (refusals table arguments ≡ []) × ReadsFound Reads (asked table arguments) result

-- The possible results of parsing arguments. Clap checks the arguments first, and the command then
-- checks its values.
abbrev pub ReadsJob : {C J V : Type 0} → Table C → ReadsRow C J V → List Text → Result (Asked J) (ArgumentsFault V) → Type 0
ReadsJob table Reads arguments (Ok (ShowText text)) = HasText (refusals table arguments)
ReadsJob table Reads arguments (Ok (Perform job)) = ReadsAccepted table Reads arguments (Ok job)
ReadsJob table Reads arguments (Err (Refused error)) =
    IsRefusedAs (refusals table arguments) (kind_of error) ⊎ ReadsAccepted table Reads arguments (Err (Refused error))
ReadsJob table Reads arguments (Err (BadValue value)) = ReadsAccepted table Reads arguments (Err (BadValue value))
ReadsJob table Reads arguments (Err Memory) = Unit {0}

-- If clap accepts arguments, the arguments name a row of the table.
abbrev pub WordsNameARow : Type 0 → Type 0
WordsNameARow C = (table : Table C) (arguments : List Text) → refusals table arguments ≡ [] → IsSome (asked table arguments)

-- Clap accepts all values that `can_be_given` allows for a command's arguments. Clap finds exactly
-- these values, and the defaults of the arguments without a value.
abbrev pub RowsTakeWhatTheyAreGiven : Type 0 → Type 0
RowsTakeWhatTheyAreGiven C = (table : Table C) (entry : Entry C) (given : List Given) (program : Text) (arguments : List Text)
    → entry_named entry.name table.entries ≡ Some entry → map rule_given given ≡ entry.rules → can_be_given entry.name given ≡ true → AreSpelled given arguments
    → (refusals table (program ∷ entry.name ∷ arguments) ≡ [])
    × (asked table (program ∷ entry.name ∷ arguments) ≡ Some (entry.command, found_given entry.name given))

-- The call returned the given value, or ran out of memory.
abbrev pub IsOrLacksMemory : {A V : Type 0} → A → Result A (ArgumentsFault V) → Type 0
IsOrLacksMemory value result = (result ≡ Ok value) ⊎ (result ≡ Err Memory)

-- If reading a command's values may return a job, reading the same values always returns this job
-- or runs out of memory.
abbrev pub ReadsOnce : {C J V : Type 0} → ReadsRow C J V → Type 0
ReadsOnce {C} {J} {V} Reads = (row : C) (rows : List Row) (job : J) (result : Result J (ArgumentsFault V)) → Reads row rows (Ok job) → Reads row rows result
    → IsOrLacksMemory job result

-- If the expected result of a call is a job, the call returns this job or runs out of memory.
abbrev pub RowsAnswerOnce : Type 0 → Type 0 → Type 0
RowsAnswerOnce J V = (expected : Result J (Refusal V)) (job : J) (result : Result J (ArgumentsFault V)) → Answers expected (Ok job) → Answers expected result
    → IsOrLacksMemory job result

-- If arguments ask for a job, parsing them returns this job or runs out of memory.
abbrev pub AskOnce : {C J V : Type 0} → Table C → ReadsRow C J V → Type 0
AskOnce {C} {J} {V} table Reads = (arguments : List Text) (job : J) (result : Result (Asked J) (ArgumentsFault V))
    → ReadsJob table Reads arguments (Ok (Perform job)) → ReadsJob table Reads arguments result → IsOrLacksMemory (Perform job) result
