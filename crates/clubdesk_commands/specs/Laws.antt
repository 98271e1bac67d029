-- A law about the events of a server's trace.
use Rattle.club_core.specs.Run as machine
use Rattle.std.specs.Prelude.{◌≡◌, ℕ, List, [], ◌∷◌, ◌++◌, Option, Some, None}
use Rattle.club_core.specs.{Club.Club, declared.{refusal.Refusal.TheVariants.Unavailable, reply.Reply.TheVariants.Refused}}
use Rattle.club_gate.specs.Runs.{DeskResponse}
use Rattle.clubdesk_commands.specs.Events.{AreEventsOfEndings}
use Rattle.desk_server.specs.Trace.{AnsweredCommand, Ending, Ending.{from_office, from_client}}
use Rattle.jiff_core.specs.declared.timestamp.Timestamp.{Timestamp}

-- The answer says that memory ran out.
abbrev pub IsAnsweredForMemory : Option AnsweredCommand → Type 0
IsAnsweredForMemory None = ⊥
IsAnsweredForMemory (Some command) = command.answer.carried.status ≡ 4

-- The client got the reply `Unavailable`, or the office got the status 4. Memory may have run out
-- before the desk received the request or the command.
abbrev pub IsRefusedForMemory : Ending → Type 0
IsRefusedForMemory (from_client exchange) = exchange.reply ≡ Some (Refused Unavailable)
IsRefusedForMemory (from_office connection) = IsAnsweredForMemory connection.command
IsRefusedForMemory ending = ⊥

-- Two lists of events of all that happened are equal, but for the events of endings that were
-- refused for memory. At such an ending, each list may have an event or none.
pub data AreAlike : List Ending → List machine.Event → List machine.Event → Type 0 where
  no_event : AreAlike [] [] []
  same_events : (all : List Ending) (events others : List machine.Event) (ending : Ending) (one : List machine.Event) → AreAlike all events others
      → AreAlike (all ++ ending ∷ []) (events ++ one) (others ++ one)
  other_events : (all : List Ending) (events others : List machine.Event) (ending : Ending) (one other : List machine.Event) → AreAlike all events others
      → IsRefusedForMemory ending → AreAlike (all ++ ending ∷ []) (events ++ one) (others ++ other)

-- All that happened has only one list of events, but for the endings that were refused for memory.
-- `Given` states which instants the machine's clock can show.
abbrev pub OneListOfEvents : (Option Timestamp → Type 0) → Type 0
OneListOfEvents Given =
    (start start' : Club) (all : List Ending) (events others : List machine.Event) (responses responses' : List DeskResponse)
    → AreEventsOfEndings Given start all events responses → AreEventsOfEndings Given start' all others responses' → AreAlike all events others
