-- Defines the command that a run's arguments ask for.
use Rattle.passtool_commands.specs.declared.table.Name.TheVariants as name
use Rattle.std.specs.{Option.ok_or, Prelude.{◌↔◌, ℕ, ◌+◌, Bool, IsTrue, not, if◌then◌else◌, List, [], Option, Some, None, Result, Ok, Err, codes, position}}
use Rattle.std.specs.Prelude.{unwrap_or}
use Rattle.clap.specs.Words.{Row, Text, all_of}
use Rattle.command_line.specs.{Arguments.{is_set, value_in, root_of}, Job.{Answers, JobOf, ReadsJob, Refusal, bad_value, ◌>>=◌, form_given}}
use Rattle.command_line.specs.declared.{errors.ArgumentsFault.ArgumentsFault, job.Asked.{Asked, TheVariants.Perform}}
use Rattle.pass_caveats.specs.{Caveat.Understood, declared.caveat.Caveat.Caveat as ACaveat}
use Rattle.passtool_commands.specs.{Application.passtool, declared.{answer.BadValue.{BadValue, TheVariants.{Root, Caveat}}, command.Command.Command}}
use Rattle.passtool_commands.specs.declared.{command.Command.TheVariants.{Mint, Show, Narrow, Convert, Verify}, table.Name.Name}

abbrev pub root_in : List Row → Result (List ℕ) (Refusal BadValue)
root_in rows = ok_or (root_of (value_in (codes "root") rows)) (bad_value Root)

-- The caveats in the arguments.
abbrev pub caveats_in : List Row → List Text
caveats_in rows = unwrap_or (all_of (codes "caveat") rows) []

abbrev pub unless_unknown : Option ℕ → List Text → Result (List Text) (Refusal BadValue)
unless_unknown None caveats = Ok caveats
unless_unknown (Some place) caveats = Err (bad_value (Caveat (place + 1)))

-- The text is a caveat of the caveat language.
abbrev pub IsCaveatText : Text → Type 0
IsCaveatText text = (caveat : ACaveat) × Understood text caveat

-- The test returns true for a text if and only if the text is a caveat of the caveat language.
-- Therefore all such tests agree.
abbrev pub IsCaveatTest : (Text → Bool) → Type 0
IsCaveatTest is_understood = (text : Text) → IsTrue (is_understood text) ↔ IsCaveatText text

module _ (is_understood : Text → Bool) where
  -- The index of the first text that isn't a caveat of the caveat language.
  abbrev pub first_unknown : List Text → Option ℕ
  first_unknown texts = position (λ text. not (is_understood text)) texts

  -- Returns the caveats if `--any` is given, or if all of them are in the caveat language.
  -- Otherwise, the fault has the position, counted from 1, of the first caveat that isn't in the
  -- caveat language.
  unfoldable pub checked_caveats : Bool → List Text → Result (List Text) (Refusal BadValue)
  checked_caveats any caveats = if any then Ok caveats else unless_unknown (first_unknown caveats) caveats

  -- The command with this name and these argument values, or the fault of the first bad value. The
  -- form is checked first, then the root, then the caveats.
  abbrev pub command_of : JobOf Name Command BadValue
  command_of name.Mint rows = do
    form ← form_given rows
    root ← root_in rows
    Ok (Mint (record {
      root = root;
      identifier = value_in (codes "id") rows;
      location = value_in (codes "location") rows;
      form = form;
      caveats = caveats_in rows;
    }))
  command_of name.Show rows = Ok Show
  command_of name.Narrow rows = do
    caveats ← checked_caveats (is_set (codes "any") rows) (caveats_in rows)
    Ok (Narrow caveats)
  command_of name.Convert rows = do
    form ← form_given rows
    Ok (Convert form)
  command_of name.Verify rows = do
    root ← root_in rows
    Ok (Verify root)

-- A call that reads the argument values `rows` of the command `name` may return this result.
pub record ReadsCommand (name : Name) (rows : List Row) (result : Result Command (ArgumentsFault BadValue)) : Type 0 where
  pub is_understood : Text → Bool
  pub is_test : IsCaveatTest is_understood
  pub answers : Answers (command_of is_understood name rows) result

-- Parsing the arguments may return this result.
abbrev pub ReadsArguments : List Text → Result (Asked Command) (ArgumentsFault BadValue) → Type 0
ReadsArguments arguments result = ReadsJob passtool ReadsCommand arguments result

-- The arguments have no fault and ask for this command.
abbrev pub AskForCommand : List Text → Command → Type 0
AskForCommand arguments command = ReadsArguments arguments (Ok (Perform command))
