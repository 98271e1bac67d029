-- This file defines the events of the club's state machine that happened at a server, with the
-- responses.
use Rattle.club_core.specs.Run as machine
use Rattle.std.specs.Prelude.{◌≡◌, ℕ, List, [], ◌∷◌, ◌++◌, Option, Some, None, Result, Ok, Err}
use Rattle.clap.specs.Words.{Text}
use Rattle.club_core.specs.{Club.Club, Request.Words, Run.{Asked, Commanded, ToMember, ToOffice}, Store.StoreGhosts}
use Rattle.club_core.specs.declared.{command.Command.Command, refusal.Refusal.{Refusal, TheVariants.Unavailable}, reply.Reply.{Reply, TheVariants.Refused}}
use Rattle.club_gate.specs.{DecodedPass.AreWordsOf, Response.desk_presentation, Runs.{DeskResponse, IsLawfulRun, LeavesClub}}
use Rattle.club_gate.specs.declared.event.OfficeReply.{OfficeReply}
use Rattle.club_http.specs.Calls.{AnswersBy}
use Rattle.club_laws.specs.Failed.{IsRun}
use Rattle.jiff_core.specs.declared.timestamp.Timestamp.{Timestamp}
use Rattle.clubdesk_arguments.specs.{Arguments.{AskFor, ReadsArguments}, Fault.of_arguments, declared.fault.Fault.{Fault, TheVariants.BadValue}}
use Rattle.clubdesk_arguments.specs.declared.task.{KeyCommand.KeyCommand, Task.{Task, TheVariants.{Give, Key}}, Work.TheVariants.{Office, Rootless}}
use Rattle.clubdesk_commands.specs.{Does.{Does, GivesReply, key_command}, HandedCommand.{SpellsCommand, SpellsNoCommand, root_in_input}}
use Rattle.clubdesk_commands.specs.OfficeDesk.{AnswersWith, AskOther, CarriesOutBy, itself}
use Rattle.command_line.specs.declared.errors.ArgumentsFault.{ArgumentsFault}
use Rattle.desk_server.specs.{Trace.{AnsweredCommand, Ending, Ending.{from_office, from_client}, ServesEndings}, declared.office.Answer.Answer}
use Rattle.http_request.specs.Words.{DecodedRequest, HoldsBody, IsRequestReading}

-- The desk's command of a task, or `None` if the task only shows something.
abbrev pub command_of : Task → Option Command
command_of (Give given) = Some given
command_of (Key given root) = Some (key_command given.name given.change root)
command_of task = None

-- The bytes that a server received ask for this task.
pub data AskForTask (bytes : List ℕ) : Task → Type 0 where
  in_arguments : (root : Text) (arguments : List Text) (file : Text) (task : Task) → SpellsCommand bytes root arguments
      → AskFor arguments file (Office task) → AskForTask bytes task
  with_root : (root : Text) (arguments : List Text) (file : Text) (command : KeyCommand) (given : List ℕ) → SpellsCommand bytes root arguments
      → AskFor arguments file (Rootless command) → root_in_input root ≡ Some given → AskForTask bytes (Key command given)

-- The bytes ask for no task of the office, and the answer says so.
pub data AskForNoTask (bytes : List ℕ) (answer : Answer) : Type 0 where
  no_command : SpellsNoCommand bytes → answer.carried.status ≡ 2 → AskForNoTask bytes answer
  other : (root : Text) (arguments : List Text) → SpellsCommand bytes root arguments → AskOther arguments → answer.carried.status ≡ 2
      → AskForNoTask bytes answer
  refused : (root : Text) (arguments : List Text) (fault : ArgumentsFault Unit) → SpellsCommand bytes root arguments
      → ReadsArguments arguments (Err fault) → AnswersWith (Err (of_arguments fault)) answer → AskForNoTask bytes answer
  no_root : (root : Text) (arguments : List Text) (file : Text) (command : KeyCommand) → SpellsCommand bytes root arguments
      → AskFor arguments file (Rootless command) → root_in_input root ≡ None → AnswersWith (Err BadValue) answer → AskForNoTask bytes answer

-- A command is one event or no event. `club` is the club when the command comes, and `Given` states
-- which instants the machine's clock can show.
pub data IsEventOfCommand (Given : Option Timestamp → Type 0) (club : Club) (bytes : List ℕ) (answer : Answer)
    : List machine.Event → List DeskResponse → Type 0 where
  -- The bytes ask the desk for a command. The answer has the desk's reply.
  given : (task : Task) (command : Command) (text : List ℕ) (told : Result (List ℕ) Fault) (reply : OfficeReply) → AskForTask bytes task
      → command_of task ≡ Some command → GivesReply text told reply → AnswersWith told answer
      → IsEventOfCommand Given club bytes answer (Commanded command ∷ []) (ToOffice reply ∷ [])
  -- The bytes ask for a listing or a sheet. The answer shows the club.
  shown : (task : Task) (told : Result (List ℕ) Fault) → AskForTask bytes task → command_of task ≡ None → Does itself Given task told club club
      → AnswersWith told answer → IsEventOfCommand Given club bytes answer [] []
  no_task : AskForNoTask bytes answer → IsEventOfCommand Given club bytes answer [] []
  -- Memory ran out before the desk received the command.
  no_memory : answer.carried.status ≡ 4 → IsEventOfCommand Given club bytes answer [] []

-- A client's request is one event or no event.
pub data IsEventOfRequest (moment : ℕ) (bytes : List ℕ) (reply : Reply) : List machine.Event → List DeskResponse → Type 0 where
  request : (decoded : DecodedRequest) (words : Words) → IsRequestReading bytes (Ok decoded) → AreWordsOf decoded.pass decoded.request words
      → IsEventOfRequest moment bytes reply (Asked words moment ∷ []) (ToMember reply ∷ [])
  no_request : (refusal : Refusal) → IsRequestReading bytes (Err refusal) → reply ≡ Refused refusal → IsEventOfRequest moment bytes reply [] []
  -- Memory ran out before the desk received the request.
  no_memory : HoldsBody bytes → reply ≡ Refused Unavailable → IsEventOfRequest moment bytes reply [] []

-- A connection of the office is no event if no complete command came.
abbrev pub IsEventOfConnection : (Option Timestamp → Type 0) → Club → Option AnsweredCommand → List machine.Event → List DeskResponse → Type 0
IsEventOfConnection Given club None events responses = (events ≡ []) × (responses ≡ [])
IsEventOfConnection Given club (Some command) events responses = IsEventOfCommand Given club command.bytes command.answer events responses

-- A client is no event if the reader failed.
abbrev pub IsEventOfClient : ℕ → List ℕ → Option Reply → List machine.Event → List DeskResponse → Type 0
IsEventOfClient moment bytes None events responses = (events ≡ []) × (responses ≡ [])
IsEventOfClient moment bytes (Some reply) events responses = IsEventOfRequest moment bytes reply events responses

-- One thing that happened is one event or no event.
abbrev pub IsEventOfEnding : (Option Timestamp → Type 0) → Club → Ending → List machine.Event → List DeskResponse → Type 0
IsEventOfEnding Given club (from_client exchange) events responses = IsEventOfClient exchange.moment exchange.bytes exchange.reply events responses
IsEventOfEnding Given club (from_office connection) events responses = IsEventOfConnection Given club connection.command events responses
IsEventOfEnding Given club ending events responses = (events ≡ []) × (responses ≡ [])

-- The events of all that happened, in order, with the responses. The machine starts with the club
-- `start`. A listing or a sheet shows the club `now` after the events before it.
pub data AreEventsOfEndings (Given : Option Timestamp → Type 0) (start : Club) : List Ending → List machine.Event → List DeskResponse → Type 0 where
  no_event : AreEventsOfEndings Given start [] [] []
  more_events : (all : List Ending) (events : List machine.Event) (responses : List DeskResponse) (ending : Ending) (one : List machine.Event)
      (its : List DeskResponse) (now : Club) → AreEventsOfEndings Given start all events responses → IsRun desk_presentation start events responses now
      → IsEventOfEnding Given now ending one its → AreEventsOfEndings Given start (all ++ ending ∷ []) (events ++ one) (responses ++ its)

module _ {S : Type 0} (ghosts : StoreGhosts S) (Given : Option Timestamp → Type 0) where
  -- All that happened is a lawful run of the club's state machine that starts with `club`. The store
  -- represents the club after the answered events. A crash may leave this club, or a club that
  -- satisfies `MayBeLeft`.
  pub record IsLawfulTrace (all : List Ending) (new : S) (club : Club) (others : List Club) : Type 0 where
    pub events : List machine.Event
    pub responses : List DeskResponse
    pub are_events : AreEventsOfEndings Given club all events responses
    pub lawful : IsLawfulRun club events responses
    pub leaves : LeavesClub ghosts.represents new club others events responses

  -- The state of the store at one point of a server. `front` happened before the point, and `rest`
  -- happened after the point.
  pub record IsLawfulAt (front rest : List Ending) (store left : S) (club : Club) (others : List Club) : Type 0 where
    pub now : S
    pub before : ServesEndings (AnswersBy ghosts) (CarriesOutBy ghosts Given) store front now
    pub after : ServesEndings (AnswersBy ghosts) (CarriesOutBy ghosts Given) now rest left
    pub lawful : IsLawfulTrace front now club others

  -- All that happened is a lawful run, and so is all that happened before any point. So a crash at
  -- any point leaves the club after the answered events, or the club after one more event.
  pub record IsRunOfClub (all : List Ending) (store left : S) (club : Club) (others : List Club) : Type 0 where
    pub whole : IsLawfulTrace all left club others
    pub at_each_point : (front rest : List Ending) → all ≡ front ++ rest → IsLawfulAt front rest store left club others
