-- Defines how a command changes the desk of a server that receives the command. The state of the
-- desk is a store or a club.
use Rattle.std.specs.{Prelude.{◌≡◌, ◌⊎◌, ℕ, List, [], ◌++◌, take, slice_get, codes, IfSome, Option, Some, None, Result, Ok, Err}, String.string_bytes}
use Rattle.clap.specs.{Words.Text, declared.error.Error.Error}
use Rattle.club_core.specs.{Club.Club, Store.StoreGhosts}
use Rattle.club_http.specs.Exchange.{AnswerRelation}
use Rattle.clubdesk_arguments.specs.{Arguments.{AskFor, ReadsArguments}, Fault.{fault_line, fault_status, of_arguments}, declared.fault.Fault.Fault}
use Rattle.clubdesk_arguments.specs.declared.{fault.Fault.TheVariants.{Arguments, BadValue}, task.{KeyCommand.KeyCommand, Service.Service, Task.Task}}
use Rattle.clubdesk_arguments.specs.declared.task.{Task.TheVariants.Key, Work.TheVariants.{Office, Rootless, Serve}}
use Rattle.clubdesk_commands.specs.{Does.Does, HandedCommand.{SpellsCommand, SpellsNoCommand, root_in_input}}
use Rattle.command_line.specs.declared.{errors.ArgumentsFault.ArgumentsFault, job.Asked.TheVariants.ShowText}
use Rattle.desk_server.specs.{Served.CommandRelation, declared.office.Answer.Answer}
use Rattle.jiff_core.specs.declared.timestamp.Timestamp.{Timestamp}

-- The status and the text of an answer. The text of a fault is the fault's line. If memory for the
-- line runs out, the status is 4.
abbrev pub AnswersWith : Result (List ℕ) Fault → Answer → Type 0
AnswersWith (Ok text) answer = (answer.carried.status ≡ 0) × (string_bytes answer.text ≡ text)
AnswersWith (Err fault) answer =
    ((answer.carried.status ≡ fault_status fault) × IfSome (fault_line fault) (λ line. string_bytes answer.text ≡ line))
    ⊎ (answer.carried.status ≡ 4)

-- The text in the log for a command with this name. The text is `office` and the first 24 bytes of
-- the name. Without a name, the text is empty.
abbrev pub named_line : Option Text → List ℕ
named_line (Some name) = codes "office " ++ take 24 name ++ codes " "
named_line None = []

-- The text in the log for a command with this answer. If the answer is the fault `Arguments`, the
-- text is empty, because `name` may then be any text.
abbrev pub logged_line : Result (List ℕ) Fault → Option Text → List ℕ
logged_line (Err (Arguments error)) name = []
logged_line answer name = named_line name

-- The answer has this status, and no text for the log.
abbrev pub IsUnnamed : ℕ → Answer → Type 0
IsUnnamed status answer = (answer.carried.status ≡ status) × (answer.carried.line ≡ [])

-- The arguments ask for help, the version or a server. None of these is a command of the office.
pub data AskOther (arguments : List Text) : Type 0 where
  text_asked : (text : Error) → ReadsArguments arguments (Ok (ShowText text)) → AskOther arguments
  server_asked : (file : Text) (service : Service) → AskFor arguments file (Serve service) → AskOther arguments

module _ {Store : Type 0} (ghosts : StoreGhosts Store) (Given : Option Timestamp → Type 0) where
  -- The effect of a command with these arguments. If the arguments are valid, the command has the
  -- same effect and answer as in a run that opens the database itself. With `--root-stdin`, the
  -- key's new root is decoded from `root`. If the arguments or the root are invalid, the store is
  -- unchanged.
  pub data DoesArguments (root : Text) (arguments : List Text) (answer : Result (List ℕ) Fault) (old new : Store) : Type 0 where
    task_done : (file : Text) (task : Task) → AskFor arguments file (Office task) → Does ghosts Given task answer old new
        → DoesArguments root arguments answer old new
    key_done : (file : Text) (command : KeyCommand) (given : List ℕ) → AskFor arguments file (Rootless command) → root_in_input root ≡ Some given
        → Does ghosts Given (Key command given) answer old new → DoesArguments root arguments answer old new
    root_refused : (file : Text) (command : KeyCommand) → AskFor arguments file (Rootless command) → root_in_input root ≡ None → answer ≡ Err BadValue
        → new ≡ old → DoesArguments root arguments answer old new
    arguments_refused : (fault : ArgumentsFault Unit) → ReadsArguments arguments (Err fault) → answer ≡ Err (of_arguments fault) → new ≡ old
        → DoesArguments root arguments answer old new

  -- The effect of the bytes that a server receives. If the bytes encode a command of the office,
  -- the desk carries out the command once, unless memory runs out. For the log, the answer has the
  -- text that `logged_line` defines. The command's name is the second argument. If the bytes encode
  -- no command of the office, the store is unchanged.
  pub data CarriesOutBy (bytes : List ℕ) (old : Store) (answer : Answer) (new : Store) : Type 0 where
    command_done : (root : Text) (arguments : List Text) (result : Result (List ℕ) Fault) → SpellsCommand bytes root arguments
        → DoesArguments root arguments result old new
        → AnswersWith result answer → answer.carried.line ≡ logged_line result (slice_get arguments 1) → CarriesOutBy bytes old answer new
    no_command : SpellsNoCommand bytes → IsUnnamed 2 answer → new ≡ old → CarriesOutBy bytes old answer new
    not_office : (root : Text) (arguments : List Text) → SpellsCommand bytes root arguments → AskOther arguments → IsUnnamed 2 answer → new ≡ old
        → CarriesOutBy bytes old answer new
    no_memory : IsUnnamed 4 answer → new ≡ old → CarriesOutBy bytes old answer new

-- The replies of a desk with a store and a clock. The clock has no effect on the replies, and a
-- reply doesn't change the clock.
abbrev pub answers_with_clock : {S C : Type 0} → (ℕ → AnswerRelation S) → ℕ → AnswerRelation (S × C)
answers_with_clock Answers moment text request old reply new = Answers moment text request old.0 reply new.0 × (new.1 ≡ old.1)

-- The effect that a command has on a desk with a store and a clock. The command doesn't change the
-- clock, and the command's time is an instant that the clock can show.
abbrev pub carries_out_with_clock : {S C : Type 0} → (C → Option Timestamp → Type 0) → ((Option Timestamp → Type 0) → CommandRelation S)
    → CommandRelation (S × C)
carries_out_with_clock Shows Carries bytes old answer new = Carries (Shows old.1) bytes old.0 answer new.0 × (new.1 ≡ old.1)

-- Used as a store, a club represents only itself.
abbrev pub itself : StoreGhosts Club
itself = record { is_clean = λ club. Unit {0}; represents = λ now club others. now ≡ club; fails = λ wish old fault new. ⊥ }
