-- Defines the program's commands and options for `clap`, the job that a run's arguments ask for,
-- and the laws of the command line.
use Rattle.clap.specs.declared.error.kind.ErrorKind.TheVariants as kind
use Rattle.club_core.specs.declared.command.Command.TheVariants as office
use Rattle.clubdesk_arguments.specs.declared.table.CommandName.TheVariants as command
use Rattle.std.specs.{Borrow.Bor, Option.{ok_or, unwrap_or}, Prelude.{List, [], ◌∷◌, ◌++◌, map, codes, ◌≡◌, ℕ, Bool, true, false, Option, Some, None}}
use Rattle.std.specs.Prelude.{option_map, option_and_then, Result, Ok, Err}
use Rattle.clap.specs.Words.{Rule, Text, Row, first_of}
use Rattle.club_clock.specs.{Zone.zone_of, declared.clock.Clock.{Clock, TheVariants.{Fixed, InZone}}}
use Rattle.club_values.specs.declared.slot.Slot.{Slot}
use Rattle.clubdesk_arguments.specs.Values.{JobModel, ReadExactly, Readers, booking_number_of, count_of, parse_number, patience_of, port_of, key_root_of}
use Rattle.clubdesk_arguments.specs.declared.task.{Task.TheVariants.{Give, Key, Sheet, ShowAccount, ShowSlot}, Work.TheVariants.{Office, Rootless, Serve}}
use Rattle.clubdesk_arguments.specs.declared.{table.CommandName.CommandName, task.{KeyChange.TheVariants.{Add, Rotate}, KeyCommand.KeyCommand, Work.Work}}
use Rattle.command_line.specs.{Application.{as_required, flag_named, form_or_v2, option_named, positional_named, with_default}, Arguments.{is_set, value_in}}
use Rattle.command_line.specs.{Job.{Answers, JobOf, ReadsJob, Refusal, bad_value, form_given, refused_as, AskOnce}, Table.Table}
use Rattle.command_line.specs.declared.{errors.ArgumentsFault.ArgumentsFault, job.Asked.{Asked, TheVariants.Perform}}
use Rattle.pass_forms.specs.declared.form.Form.{Form, TheVariants.V2}

-- The required positional arguments of a command. The first argument is FILE.
abbrev pub positionals_over_file : List Text → List Rule
positionals_over_file names = map (λ name. as_required (positional_named name)) (codes "FILE" ∷ names)

-- The option `[--zone RULE]`. The default zone is UTC.
abbrev pub zone_option : Rule
zone_option = with_default (codes "UTC0") (option_named (codes "zone"))

abbrev pub at_option : Rule
at_option = option_named (codes "at")

abbrev pub port_option : Rule
port_option = as_required (option_named (codes "port"))

abbrev pub count_option : Rule
count_option = as_required (option_named (codes "count"))

-- The option `[--patience SECONDS]`. The default is 10 seconds.
abbrev pub patience_option : Rule
patience_option = with_default (codes "10") (option_named (codes "patience"))

-- The flag `--root-stdin`.
abbrev pub root_flag : Rule
root_flag = flag_named (codes "root-stdin")

-- The flag `--log`.
abbrev pub log_flag : Rule
log_flag = flag_named (codes "log")

abbrev slot_positionals : List Rule
slot_positionals = positionals_over_file (codes "FACILITY" ∷ codes "DAY" ∷ codes "HOUR" ∷ [])

-- The program's table of commands. Each positional argument is required, except in these two
-- commands:
-- - `add-key FILE KEY MEMBER [ROOT] [--root-stdin] [--form FORM]`
-- - `rotate-key FILE KEY ROOT [MOMENT] [--root-stdin] [--form FORM]`
--
-- If `rotate-key` gets no argument `MOMENT`, the argument `ROOT` is the moment.
--
-- Two more commands have options:
-- - `serve --port P --count N [--zone RULE] [--at MOMENT] [--patience SECONDS] [--log]`
-- - `show-account [--zone RULE] [--at MOMENT]`
unfoldable pub clubdesk : Table CommandName
clubdesk = record {
  title = codes "clubdesk";
  entries =
      record { command = command.AddMember; name = codes "add-member"; rules = positionals_over_file (codes "NAME" ∷ codes "QUOTA" ∷ []) }
      ∷ record { command = command.Credit; name = codes "credit"; rules = positionals_over_file (codes "MEMBER" ∷ codes "POINTS" ∷ []) }
      ∷ record { command = command.Debit; name = codes "debit"; rules = positionals_over_file (codes "MEMBER" ∷ codes "POINTS" ∷ []) }
      ∷ record { command = command.SetQuota; name = codes "set-quota"; rules = positionals_over_file (codes "MEMBER" ∷ codes "QUOTA" ∷ []) }
      ∷ record {
        command = command.AddFacility;
        name = codes "add-facility";
        rules = positionals_over_file (codes "NAME" ∷ codes "KIND" ∷ codes "PLACES" ∷ codes "PRICE" ∷ codes "OPENS" ∷ codes "SHUTS" ∷ []);
      }
      ∷ record {
        command = command.SetFacility;
        name = codes "set-facility";
        rules = positionals_over_file (codes "NAME" ∷ codes "PLACES" ∷ codes "PRICE" ∷ codes "OPENS" ∷ codes "SHUTS" ∷ []);
      }
      ∷ record {
        command = command.AddKey;
        name = codes "add-key";
        rules = positionals_over_file (codes "KEY" ∷ codes "MEMBER" ∷ []) ++ (positional_named (codes "ROOT") ∷ root_flag ∷ form_or_v2 ∷ []);
      }
      ∷ record { command = command.RevokeKey; name = codes "revoke-key"; rules = positionals_over_file (codes "KEY" ∷ []) }
      ∷ record {
        command = command.RotateKey;
        name = codes "rotate-key";
        rules = positionals_over_file (codes "KEY" ∷ codes "ROOT-OR-MOMENT" ∷ []) ++ (positional_named (codes "MOMENT") ∷ root_flag ∷ form_or_v2 ∷ []);
      }
      ∷ record { command = command.CloseSlot; name = codes "close-slot"; rules = slot_positionals }
      ∷ record { command = command.OpenSlot; name = codes "open-slot"; rules = slot_positionals }
      ∷ record { command = command.CancelBooking; name = codes "cancel-booking"; rules = positionals_over_file (codes "KEY" ∷ codes "NUMBER" ∷ []) }
      ∷ record { command = command.Sheet; name = codes "sheet"; rules = positionals_over_file (codes "DAY" ∷ []) }
      ∷ record {
        command = command.Serve;
        name = codes "serve";
        rules = positionals_over_file [] ++ (port_option ∷ count_option ∷ zone_option ∷ at_option ∷ patience_option ∷ log_flag ∷ []);
      }
      ∷ record {
        command = command.ShowAccount;
        name = codes "show-account";
        rules = positionals_over_file (codes "KEY" ∷ []) ++ (zone_option ∷ at_option ∷ []);
      }
      ∷ record { command = command.ShowSlot; name = codes "show-slot"; rules = slot_positionals }
      ∷ [];
}

-- The bind operator of `Option`, like `?` in code.
infixl 10 ◌>>=◌
abbrev pub ◌>>=◌ : {A B : Type 0} → Option A → (A → Option B) → Option B
Some x >>= f = f x
None >>= f = None

-- The value of the argument `id`, parsed as a number.
abbrev pub number_value : Text → List Row → Option ℕ
number_value id rows = parse_number (value_in id rows)

-- The work for a `KeyCommand`. If no argument contains the root, the root comes from standard input
-- later.
abbrev pub key_work : KeyCommand → Option Text → Option Work
key_work given None = Some (Rootless given)
key_work given (Some argument) = do
  root ← key_root_of argument
  Some (Office (Key given root))

-- The moment of a rotation, which is the last positional argument. If the root is also an argument,
-- the root comes before the moment.
abbrev pub rotation_moment_in : List Row → Text
rotation_moment_in rows = unwrap_or (first_of (codes "MOMENT") rows) (value_in (codes "ROOT-OR-MOMENT") rows)

abbrev pub rotation_root_in : List Row → Option Text
rotation_root_in rows = option_and_then (λ (moment : Text). first_of (codes "ROOT-OR-MOMENT") rows) (first_of (codes "MOMENT") rows)

-- The root argument and the form, or the reason why the arguments are refused. The root must come
-- either from the argument or from standard input. `by_input` is true if the flag `--root-stdin` is
-- set. The root is checked before the form.
abbrev pub root_and_form : Option Text → Bool → Result Form (Refusal Unit) → Result (Option Text × Form) (Refusal Unit)
root_and_form (Some argument) true form = Err (refused_as kind.ArgumentConflict)
root_and_form None false form = Err (refused_as kind.MissingRequiredArgument)
root_and_form argument by_input (Err refusal) = Err refusal
root_and_form argument by_input (Ok form) = Ok (argument, form)

abbrev pub root_and_form_in : Option Text → List Row → Result (Option Text × Form) (Refusal Unit)
root_and_form_in argument rows = root_and_form argument (is_set (codes "root-stdin") rows) (form_given rows)

-- The root argument and the form of a command. Only `add-key` and `rotate-key` have them.
abbrev pub root_and_form_of : CommandName → List Row → Result (Option Text × Form) (Refusal Unit)
root_and_form_of command.AddKey rows = root_and_form_in (first_of (codes "ROOT") rows) rows
root_and_form_of command.RotateKey rows = root_and_form_in (rotation_root_in rows) rows
root_and_form_of name rows = Ok (None, V2)

abbrev pub of_root_and_form : List Row → (Option Text → Form → List Row → Option Work) → Result (Option Text × Form) (Refusal Unit)
    → Result Work (Refusal Unit)
of_root_and_form rows of (Err refusal) = Err refusal
of_root_and_form rows of (Ok given) = ok_or (of given.0 given.1 rows) (bad_value tt)

abbrev pub over_file : Text → Result Work (Refusal Unit) → Result JobModel (Refusal Unit)
over_file file (Err refusal) = Err refusal
over_file file (Ok work) = Ok (record { file = file; work = work })

module _ (read : Readers) where
  -- The value of the argument `id`, parsed as a name.
  abbrev pub name_value : Text → List Row → Option Text
  name_value id rows = read.name (value_in id rows)

  -- The slot in the arguments `FACILITY DAY HOUR`.
  abbrev pub slot_in : List Row → Option Slot
  slot_in rows = do
    facility ← name_value (codes "FACILITY") rows
    day ← read.day (value_in (codes "DAY") rows)
    hour ← read.hour (value_in (codes "HOUR") rows)
    Some (record { facility = facility; day = day; hour = hour })

  -- A clock that is fixed at the moment of `--at`. Without `--at`, the clock shows the machine's
  -- time in the zone.
  abbrev pub clock_of : Text → Option Text → Option Clock
  clock_of zone None = Some (InZone zone)
  clock_of zone (Some at) = do
    moment ← read.moment at
    Some (Fixed moment)

  -- The clock of the options `--zone` and `--at`.
  abbrev pub clock_in : List Row → Option Clock
  clock_in rows = do
    zone ← zone_of (value_in (codes "zone") rows)
    clock_of zone (first_of (codes "at") rows)

  -- The work that a command's arguments ask for, or `None` if a value is invalid. Only `add-key` and
  -- `rotate-key` use the root and the form.
  abbrev pub work_in : CommandName → Option Text → Form → List Row → Option Work
  work_in command.AddMember root form rows = do
    name ← name_value (codes "NAME") rows
    quota ← number_value (codes "QUOTA") rows
    Some (Office (Give (office.AddMember name quota)))
  work_in command.Credit root form rows = do
    member ← name_value (codes "MEMBER") rows
    points ← number_value (codes "POINTS") rows
    Some (Office (Give (office.Credit member points)))
  work_in command.Debit root form rows = do
    member ← name_value (codes "MEMBER") rows
    points ← number_value (codes "POINTS") rows
    Some (Office (Give (office.Debit member points)))
  work_in command.SetQuota root form rows = do
    member ← name_value (codes "MEMBER") rows
    quota ← number_value (codes "QUOTA") rows
    Some (Office (Give (office.SetQuota member quota)))
  work_in command.AddFacility root form rows = do
    name ← name_value (codes "NAME") rows
    of_kind ← read.kind (value_in (codes "KIND") rows)
    places ← number_value (codes "PLACES") rows
    price ← number_value (codes "PRICE") rows
    opens ← number_value (codes "OPENS") rows
    shuts ← number_value (codes "SHUTS") rows
    Some (Office (Give (office.AddFacility name of_kind places price opens shuts)))
  work_in command.SetFacility root form rows = do
    name ← name_value (codes "NAME") rows
    places ← number_value (codes "PLACES") rows
    price ← number_value (codes "PRICE") rows
    opens ← number_value (codes "OPENS") rows
    shuts ← number_value (codes "SHUTS") rows
    Some (Office (Give (office.SetFacility name places price opens shuts)))
  work_in command.AddKey root form rows = do
    key ← name_value (codes "KEY") rows
    member ← name_value (codes "MEMBER") rows
    key_work (record { name = key; change = Add member; form = form }) root
  work_in command.RevokeKey root form rows = do
    key ← name_value (codes "KEY") rows
    Some (Office (Give (office.RevokeKey key)))
  work_in command.RotateKey root form rows = do
    key ← name_value (codes "KEY") rows
    until ← read.moment (rotation_moment_in rows)
    key_work (record { name = key; change = Rotate until; form = form }) root
  work_in command.CloseSlot root form rows = do
    slot ← slot_in rows
    Some (Office (Give (office.CloseSlot slot)))
  work_in command.OpenSlot root form rows = do
    slot ← slot_in rows
    Some (Office (Give (office.OpenSlot slot)))
  work_in command.CancelBooking root form rows = do
    key ← name_value (codes "KEY") rows
    number ← booking_number_of (value_in (codes "NUMBER") rows)
    Some (Office (Give (office.CancelBooking key number)))
  work_in command.Sheet root form rows = do
    day ← read.day (value_in (codes "DAY") rows)
    Some (Office (Sheet day))
  work_in command.Serve root form rows = do
    port ← port_of (value_in (codes "port") rows)
    count ← count_of (value_in (codes "count") rows)
    clock ← clock_in rows
    patience ← patience_of (value_in (codes "patience") rows)
    Some (Serve (record { port = port; count = count; clock = clock; patience = patience; log = is_set (codes "log") rows }))
  work_in command.ShowAccount root form rows = do
    key ← name_value (codes "KEY") rows
    clock ← clock_in rows
    Some (Office (ShowAccount key clock))
  work_in command.ShowSlot root form rows = do
    slot ← slot_in rows
    Some (Office (ShowSlot slot))

  -- The work that a command's arguments ask for, or the reason why the arguments are refused. The
  -- root and the form are checked before the other values.
  abbrev pub work_named : CommandName → List Row → Result Work (Refusal Unit)
  work_named name rows = of_root_and_form rows (work_in name) (root_and_form_of name rows)

  -- The job that a command's arguments ask for, or the reason why the arguments are refused.
  abbrev pub job_of : JobOf CommandName JobModel Unit
  job_of name rows = over_file (value_in (codes "FILE") rows) (work_named name rows)

-- The possible results of converting the values of a command's arguments to a job. The choice of
-- `read` doesn't matter, because all exact readers return the same values.
pub record ReadsValues (name : CommandName) (rows : List Row) (result : Result JobModel (ArgumentsFault Unit)) : Type 0 where
  pub read : Readers
  pub exact : ReadExactly read
  pub answers : Answers (job_of read name rows) result

-- The possible results of parsing the arguments.
abbrev pub ReadsArguments : List Text → Result (Asked JobModel) (ArgumentsFault Unit) → Type 0
ReadsArguments arguments result = ReadsJob clubdesk ReadsValues arguments result

-- The arguments ask for this work on the database in this file.
abbrev pub AskFor : List Text → Text → Work → Type 0
AskFor arguments file work = ReadsArguments arguments (Ok (Perform (record { file = file; work = work })))

-- A call returns the root argument and the form, or the expected fault. A call can also run out of
-- memory.
abbrev pub AnswersRoot : Result (Option Text × Form) (Refusal Unit) → Result (Option (Bor Text) × Form) (ArgumentsFault Unit) → Type 0
AnswersRoot expected (Ok answer) = expected ≡ Ok (option_map (λ text. text.now) answer.0, answer.1)
AnswersRoot expected (Err fault) = Answers expected (Err fault)

-- If arguments ask for a job, parsing them returns this job or runs out of memory.
abbrev pub AskForOneJob : Type 0
AskForOneJob = AskOnce clubdesk ReadsValues
