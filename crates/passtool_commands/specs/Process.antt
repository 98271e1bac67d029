-- Defines the effect of a process that runs the program.
use Rattle.std.specs.Prelude.{◌≡◌, ◌≢◌, ℕ, List, Option, Result, Err, IfErr}
use Rattle.clap.specs.Words.{Text}
use Rattle.clap.specs.declared.error.kind.ErrorKind.TheVariants as kinds
use Rattle.command_line.specs.{Arguments.IsOfKind, Lines.{LinesChange, PrintsFault}, declared.errors.ArgumentsFault.ArgumentsFault}
use Rattle.passtool_commands.specs.{Arguments.AskForCommand, Fault.{fault_output, of_arguments, exit_status}, Run.{AnswersArguments, AskForNoInput, Performs}}
use Rattle.passtool_commands.specs.declared.{answer.{BadValue.BadValue, Fault.{Fault, TheVariants.InputOutput}, Outcome.Outcome}, command.Command.Command}

-- `Unread` states that the reader is unchanged. `Unwritten` states that the writer is unchanged.
module _ (left left' held held' : Option (List ℕ)) (Unread Unwritten : Type 0) where
  -- The effect of a run with these arguments. Each field corresponds to a clause in the contract of
  -- `run`.
  pub record RunsOn (arguments : List Text) (ended : Result Outcome Fault) : Type 0 where
    pub answers : AnswersArguments arguments ended
    pub performs : (command : Command) → AskForCommand arguments command → Performs command left left' held held' ended
    pub unread : AskForNoInput arguments → Unread
    pub silent : IfErr ended (λ fault. fault ≢ InputOutput → Unwritten)

-- The exit status matches the run's result. If the run failed, the program printed the text of the
-- fault once. Otherwise the program printed nothing on standard error.
abbrev pub EndsWith : LinesChange → Result Outcome Fault → ℕ → Type 0
EndsWith lines ended status = (status ≡ exit_status ended) × PrintsFault fault_output lines ended

-- The effect of a process that passes its arguments to the program. Only if the process can't read
-- its arguments, because an argument isn't valid UTF-8, or because memory for the arguments runs
-- out, the process does nothing but print the fault.
pub data RunsProcess (Given : List Text → Type 0) (Unreadable : Type 0) (lines : LinesChange) (left left' held held' : Option (List ℕ))
    (Unread Unwritten : Type 0) (status : ℕ) : Type 0 where
  process_ran : (arguments : List Text) (ended : Result Outcome Fault) → Given arguments
      → RunsOn left left' held held' Unread Unwritten arguments ended → EndsWith lines ended status
      → RunsProcess Given Unreadable lines left left' held held' Unread Unwritten status
  arguments_refused : (fault : ArgumentsFault BadValue) → Unreadable → IsOfKind kinds.ValueValidation fault → Unread → Unwritten
      → EndsWith lines (Err (of_arguments fault)) status
      → RunsProcess Given Unreadable lines left left' held held' Unread Unwritten status
