-- Defines the effect of a run of the program, and of a process that runs the program.
use Rattle.desk_server.specs.Served as served
use Rattle.clap.specs.declared.error.kind.ErrorKind.TheVariants as kinds
use Rattle.std.specs.{Io.KnownBytes.Appends, Prelude.{◌≡◌, ◌≢◌, ◌⊎◌, ℕ, ◌≤◌, List, [], ◌∷◌, ◌++◌, Option, Some, None, Result, Ok, Err, IfErr, true, false}}
use Rattle.std.specs.{Prelude.{codes, decimal}, String.string_bytes}
use Rattle.clap.specs.{Words.Text, declared.error.Error.Error}
use Rattle.club_clock.specs.{Moments.showing, declared.clock.Clock.Clock}
use Rattle.club_core.specs.{Club.Club, Store.StoreGhosts, declared.store.StoreFault.StoreFault}
use Rattle.club_http.specs.{Calls.AnswersBy, Exchange.AnswerRelation}
use Rattle.clubdesk_arguments.specs.{Arguments.{AskFor, ReadsArguments}, Fault.{fault_of_opening, of_arguments, fault_output, fault_status}}
use Rattle.clubdesk_arguments.specs.declared.fault.Fault.{Fault, TheVariants.{Memory, ClockOutOfRange, InputOutput, NoAnswer, Answered}}
use Rattle.clubdesk_arguments.specs.declared.task.{KeyCommand.KeyCommand, Service.Service, Task.{Task, TheVariants.Key}, Work.TheVariants.{Office, Rootless}}
use Rattle.clubdesk_arguments.specs.declared.task.Work.TheVariants.{Serve}
use Rattle.clubdesk_commands.specs.{Does.Does, Events.IsRunOfClub, HandedCommand.{SpellsCommand, TakesRoot}, OfficeDesk.CarriesOutBy}
use Rattle.clubdesk_commands.specs.Output.{EndsWork, LogChange, Prints, Stream}
use Rattle.command_line.specs.{Arguments.IsOfKind, Lines.{LinesChange, PrintsFault}, Process.AppendsFront, declared.errors.ArgumentsFault.ArgumentsFault}
use Rattle.command_line.specs.declared.job.Asked.TheVariants.{ShowText}
use Rattle.desk_server.specs.{Served.{Ends, Turn}, Server.Giving, Trace.{ServesTrace, Trace, happened, turns_of}}
use Rattle.desk_server.specs.declared.databases.{Databases.Ghosts as DatabasesWords, Reached.TheVariants.{Opened, Served}}
use Rattle.desk_server.specs.declared.{databases.Visit.Ghosts as VisitWords, serve.ClockOutOfRange.ClockOutOfRange as ClockFault}
use Rattle.hex.specs.Hex.{encode_lower}
use Rattle.jiff_core.specs.declared.timestamp.Timestamp.{Timestamp}

-- An exchange over a socket can have any outcome, because no contract states which bytes a socket
-- reads or writes.
abbrev pub over_socket : Ends
over_socket bytes written outcome = Unit {0}

-- If the service asks for a log, the log noted these turns.
abbrev pub IfLogged : Service → (List Turn → Type 0) → List Turn → Type 0
IfLogged service Noted turns = service.log ≡ true → Noted turns

-- The result of a server that listened. The argument is the result of serving the clients.
abbrev pub outcome_of_server : Result Unit ClockFault → Result Unit Fault
outcome_of_server (Ok done) = Ok done
outcome_of_server (Err stopped) = Err ClockOutOfRange

-- The effect of a server. A server that listens serves clients until it reaches the requested
-- number of clients, or until the clock fails. The time of each client is the service's fixed time,
-- or the time of the machine's clock. Before each client, and while the server waits for a request,
-- the server carries out the office's commands. If the service asks for a log, the log notes all
-- turns. If the server can't listen, can't write its address or runs out of memory, it serves no
-- client, and its log notes no turn.
pub data RunsServer {Desk Machine : Type 0} (Shows : Machine → Option Timestamp → Type 0) (machine : Machine)
    (Answers : ℕ → AnswerRelation Desk) (Carries : served.CommandRelation Desk) (service : Service) (all : Trace) (old new : Desk)
    (Noted : List Turn → Type 0) (result : Result Unit Fault) : Type 0 where
  listened : (outcome : Result Unit ClockFault) (last : Clock × Machine) (failures : ℕ) → result ≡ outcome_of_server outcome
      → ServesTrace (showing Shows) Answers Carries over_socket all service.count (service.clock, machine) old 0 outcome last new failures
      → IfLogged service Noted (turns_of all) → RunsServer Shows machine Answers Carries service all old new Noted result
  not_listened : (result ≡ Err Memory) ⊎ (result ≡ Err InputOutput) → all ≡ [] → new ≡ old → Noted []
      → RunsServer Shows machine Answers Carries service all old new Noted result

-- The line that a server writes when it listens on this port of the loopback address.
abbrev pub listening_line : ℕ → List ℕ
listening_line port = codes "listening on 127.0.0.1:" ++ decimal port ++ 10 ∷ []

-- The server listens on the requested port. If the requested port is 0, the server listens on any
-- port.
abbrev pub IsPortFor : ℕ → ℕ → Type 0
IsPortFor asked port = (port ≤ 65_535) × ((asked ≡ 0) ⊎ (port ≡ asked))

-- The server listens on a port, and has written only its address.
abbrev pub IsAnnounced : ℕ → Stream → Type 0
IsAnnounced asked written = (port : ℕ) × IsPortFor asked port × Appends written.before written.after (listening_line port)

-- The server ends with this fault before it serves a client. If the fault is `Memory`, the server
-- has written nothing. If the fault is `InputOutput`, the server may have written a prefix of the
-- line with its address.
abbrev pub StopsBefore : ℕ → Stream → Fault → Type 0
StopsBefore asked written InputOutput =
    written.no_change ⊎ ((port : ℕ) × IsPortFor asked port × AppendsFront written.before written.after (listening_line port))
StopsBefore asked written Memory = written.no_change
StopsBefore asked written fault = ⊥

-- The output of a server before it serves its first client.
abbrev pub Announces : ℕ → Stream → Result Unit Fault → Type 0
Announces asked written (Ok done) = IsAnnounced asked written
Announces asked written (Err ClockOutOfRange) = IsAnnounced asked written
Announces asked written (Err fault) = StopsBefore asked written fault

-- If the disk stayed clean, all that happened is a lawful run of the club's state machine. This
-- holds for each club that the store represented before the first turn.
abbrev pub FollowsMachine : {Store : Type 0} → StoreGhosts Store → (Option Timestamp → Type 0) → Trace → Store → Store → Type 0
FollowsMachine ghosts Given all store left =
    ghosts.is_clean left → (club : Club) (others : List Club) → ghosts.represents store club others
    → IsRunOfClub ghosts Given (happened all) store left club others

-- The root of a task in hexadecimal. The text is empty if the task has no root.
abbrev pub handed_root : Task → Text
handed_root (Key command root) = encode_lower root
handed_root task = []

-- The answer to a command that the program sent to a server. The answer is the server's reply, or
-- the fault `NoAnswer` if the server sent no reply.
abbrev pub IsReply : Option (ℕ × List ℕ) → Result (List ℕ) Fault → Type 0
IsReply reply (Ok text) = reply ≡ Some (0, text)
IsReply reply (Err NoAnswer) = reply ≡ None
IsReply reply (Err (Answered status line)) = (status ≢ 0) × (reply ≡ Some (status, string_bytes line))
IsReply reply (Err fault) = ⊥

-- The program sends a command with these arguments and this root to a server, and the server's
-- reply is the answer. If memory for the command's bytes runs out, the program sends nothing.
pub data IsHandedOver {Visit : Type 0} (Gives : Giving Visit) (visit : Visit) (root : Text) (arguments : List Text)
    (answer : Result (List ℕ) Fault) : Type 0 where
  not_handed : answer ≡ Err Memory → IsHandedOver Gives visit root arguments answer
  handed : (bytes : List ℕ) (reply : Option (ℕ × List ℕ)) → SpellsCommand bytes root arguments → Gives visit bytes reply → IsReply reply answer
      → IsHandedOver Gives visit root arguments answer

module _ {D S R V Machine : Type 0} (databases : DatabasesWords D S R V) (visits : VisitWords V) (ghosts : StoreGhosts S)
    (Shows : Machine → Option Timestamp → Type 0) (machine : Machine)
  where
    -- The effect that a task of the office has on the database with this name. There are three
    -- cases:
    -- - A server has the database open. The program sends the arguments and the root to the server,
    --   and writes the server's reply.
    -- - The program opens the database, carries out the task, closes the database, and writes the
    --   answer.
    -- - The program can't reach the database.
    pub data Performs (arguments : List Text) (file : Text) (task : Task) (old new : D) (written : Stream) (result : Result Unit Fault) : Type 0 where
      not_reached : (fault : StoreFault) → databases.reaches old file (Err fault) new → result ≡ Err (fault_of_opening fault) → written.no_change
          → Performs arguments file task old new written result
      task_done : (answer : Result (List ℕ) Fault) (store left : S) (between : D) → databases.reaches old file (Ok (Opened store)) between
          → Does ghosts (Shows machine) task answer store left → databases.closes between left new
          → Prints answer written result → Performs arguments file task old new written result
      handed_over : (answer : Result (List ℕ) Fault) (visit : V) → databases.reaches old file (Ok (Served visit)) new
          → IsHandedOver visits.gives visit (handed_root task) arguments answer → Prints answer written result
          → Performs arguments file task old new written result

    -- The effect of a server for the database with this name. There are three cases:
    -- - The server opens the database, serves clients, carries out commands, and closes the
    --   database at the end.
    -- - The server can't make the door of the database, and closes the database.
    -- - The server can't open the database.
    pub data Serves (file : Text) (service : Service) (old new : D) (written : Stream) (Noted : List Turn → Type 0) (result : Result Unit Fault) : Type 0 where
      not_opened : (fault : StoreFault) → databases.opens old file (Err fault) new → result ≡ Err (fault_of_opening fault) → written.no_change → Noted []
          → Serves file service old new written Noted result
      no_door : (fault : StoreFault) (store : S) (between : D) → databases.opens old file (Ok store) between → databases.closes between store new
          → result ≡ Err (fault_of_opening fault) → written.no_change → Noted [] → Serves file service old new written Noted result
      server_done : (store left : S) (between : D) (all : Trace) → databases.opens old file (Ok store) between
          → RunsServer Shows machine (AnswersBy ghosts) (CarriesOutBy ghosts (Shows machine)) service all store left Noted result
          → FollowsMachine ghosts (Shows machine) all store left
          → Announces service.port written result → databases.closes between left new → Serves file service old new written Noted result

    -- The effect of a run with these arguments.
    pub data Runs (arguments : List Text) (given : Stream) (old new : D) (written : Stream) (log : LogChange) (result : Result Unit Fault) : Type 0 where
      -- The arguments have a fault, or memory runs out. The run does nothing.
      arguments_refused : (fault : ArgumentsFault Unit) → ReadsArguments arguments (Err fault) → result ≡ Err (of_arguments fault) → given.no_change → new ≡ old
          → written.no_change → log.no_change → Runs arguments given old new written log result
      -- The arguments ask for help or the version. The run opens no database.
      text_shown : (text : Error) → ReadsArguments arguments (Ok (ShowText text)) → IfErr result (λ fault. fault ≡ InputOutput) → given.no_change → new ≡ old
          → log.no_change → Runs arguments given old new written log result
      task_asked : (file : Text) (task : Task) → AskFor arguments file (Office task) → Performs arguments file task old new written result
          → EndsWork written.no_change result → given.no_change → log.no_change → Runs arguments given old new written log result
      -- The arguments ask the program to read a key's root from standard input. The program reads
      -- the root before it opens the database.
      key_asked : (file : Text) (command : KeyCommand) (root : List ℕ) → AskFor arguments file (Rootless command) → TakesRoot given.before given.after (Ok root)
          → Performs arguments file (Key command root) old new written result → EndsWork written.no_change result → log.no_change
          → Runs arguments given old new written log result
      -- The program can't read the input, or the input isn't a root. Apart from reading the input,
      -- the run does nothing.
      root_refused : (file : Text) (command : KeyCommand) (fault : Fault) → AskFor arguments file (Rootless command)
          → TakesRoot given.before given.after (Err fault)
          → result ≡ Err fault → new ≡ old → written.no_change → log.no_change → Runs arguments given old new written log result
      -- The arguments ask for a server. The server writes a log only if the arguments ask for a
      -- log.
      server_asked : (file : Text) (service : Service) → AskFor arguments file (Serve service) → Serves file service old new written log.notes result
          → EndsWork written.no_change result → given.no_change → (service.log ≡ false → log.no_change) → Runs arguments given old new written log result

-- The exit status of a run with this result.
abbrev pub exit_status : Result Unit Fault → ℕ
exit_status (Ok done) = 0
exit_status (Err fault) = fault_status fault

-- The exit status matches the run's result. If the run failed, the program printed the text of the
-- fault once. Otherwise the program printed nothing on standard error, except its log.
abbrev pub EndsWith : LinesChange → Result Unit Fault → ℕ → Type 0
EndsWith lines ended status = (status ≡ exit_status ended) × PrintsFault fault_output lines ended

module _ {D S R V Machine : Type 0} (databases : DatabasesWords D S R V) (visits : VisitWords V) (ghosts : StoreGhosts S)
    (Shows : Machine → Option Timestamp → Type 0) (machine : Machine) (Given : List Text → Type 0) (Unreadable : Type 0) (lines : LinesChange)
  where
    -- The effect of a process. The process runs the program on its arguments. Only if the process
    -- can't read its arguments, because an argument isn't valid UTF-8, or because memory for the
    -- arguments runs out, the process does nothing but print the fault.
    pub data RunsProcess (given : Stream) (old new : D) (written : Stream) (log : LogChange) (status : ℕ) : Type 0 where
      process_ran : (arguments : List Text) (ended : Result Unit Fault) → Given arguments
          → Runs databases visits ghosts Shows machine arguments given old new written log ended → EndsWith lines ended status
          → RunsProcess given old new written log status
      arguments_refused : (fault : ArgumentsFault Unit) → Unreadable → IsOfKind kinds.ValueValidation fault → given.no_change → new ≡ old → written.no_change
          → log.no_change → EndsWith lines (Err (of_arguments fault)) status → RunsProcess given old new written log status
