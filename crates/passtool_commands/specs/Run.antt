-- Defines how a run of the program affects its reader and its writer.
use Rattle.std.specs.{Io.{StartsWith, KnownBytes.{Appends, Keeps}}, Prelude.{◌≡◌, ◌⊎◌, ℕ, List, [], Option, Result, Ok, Err, Bool, false, true}}
use Rattle.clap.specs.Words.{Text}
use Rattle.command_line.specs.{Arguments.HasText, Process.ReadsAtMost, Table.refusals, declared.errors.ArgumentsFault.TheVariants.{Refused, BadValue}}
use Rattle.pass_forms.specs.declared.fault.FormFault.TheVariants.{Memory}
use Rattle.passtool_commands.specs.declared.{answer.Fault.TheVariants.{Arguments, Pass, BadRoot, CaveatNotUnderstood, InputOutput}, command.Command.Command}
use Rattle.passtool_commands.specs.declared.answer.{BadValue.TheVariants.{Root, Caveat}, Fault.Fault, Outcome.{Outcome, TheVariants.{Done, NotSigned}}}
use Rattle.passtool_commands.specs.{Answer.{IsAnswer, OutcomeText, reads_input}, Application.passtool, Arguments.{AskForCommand, ReadsArguments}}

-- A command that reads input reads all remaining bytes of the reader, or the first 8,194 of these
-- bytes. For any other command, `bytes` is empty.
abbrev pub ReadsInput : Bool → Option (List ℕ) → Option (List ℕ) → List ℕ → Type 0
ReadsInput true left left' bytes = ReadsAtMost 8194 left left' bytes
ReadsInput false left left' bytes = bytes ≡ []

-- The command reads its input and appends the bytes `written` to the output. The command's answer
-- is `ending`.
pub record Writes (command : Command) (left left' held held' : Option (List ℕ)) (ending : OutcomeText) (written : List ℕ) : Type 0 where
  pub bytes : List ℕ
  pub reads : ReadsInput (reads_input command) left left' bytes
  pub answers : IsAnswer command bytes (Ok ending)
  pub appends : Appends held held' written

-- The command reads its input and writes a prefix of its answer. The prefix may be the whole
-- answer.
abbrev pub WritesFront : Command → Option (List ℕ) → Option (List ℕ) → Option (List ℕ) → Option (List ℕ) → Type 0
WritesFront command left left' held held' =
    (ending : OutcomeText) × (front : List ℕ) × StartsWith ending.1 front × Writes command left left' held held' ending front

-- A command reads its input and writes exactly its answer, unless memory runs out. If the answer is
-- a fault, the command fails with this fault. If the reader or the writer fails, the command writes
-- nothing, or a prefix of the answer to the whole input.
abbrev pub Performs : Command → Option (List ℕ) → Option (List ℕ) → Option (List ℕ)
    → Option (List ℕ) → Result Outcome Fault → Type 0
Performs command left left' held held' (Ok outcome) = (text : List ℕ) × Writes command left left' held held' (outcome, text) text
Performs command left left' held held' (Err (Pass Memory)) = Unit {0}
Performs command left left' held held' (Err (Pass fault)) =
    (bytes : List ℕ) × ReadsInput (reads_input command) left left' bytes × IsAnswer command bytes (Err fault)
Performs command left left' held held' (Err InputOutput) = Keeps held held' ⊎ WritesFront command left left' held held'
Performs command left left' held held' (Err fault) = ⊥

-- The arguments ask for a command.
abbrev pub AskForAny : List Text → Type 0
AskForAny arguments = (command : Command) × AskForCommand arguments command

-- If the arguments ask for a command, the command reads no input.
abbrev pub AskForNoInput : List Text → Type 0
AskForNoInput arguments = (command : Command) → AskForCommand arguments command → reads_input command ≡ false

-- A run with these arguments can have this result.
abbrev pub AnswersArguments : List Text → Result Outcome Fault → Type 0
AnswersArguments arguments (Ok NotSigned) = AskForAny arguments
AnswersArguments arguments (Ok Done) = AskForAny arguments ⊎ HasText (refusals passtool arguments)
AnswersArguments arguments (Err (Arguments error)) = ReadsArguments arguments (Err (Refused error))
AnswersArguments arguments (Err BadRoot) = ReadsArguments arguments (Err (BadValue Root))
AnswersArguments arguments (Err (CaveatNotUnderstood number)) = ReadsArguments arguments (Err (BadValue (Caveat number)))
AnswersArguments arguments (Err (Pass Memory)) = Unit {0}
AnswersArguments arguments (Err (Pass fault)) = AskForAny arguments
AnswersArguments arguments (Err InputOutput) = AskForAny arguments ⊎ HasText (refusals passtool arguments)
