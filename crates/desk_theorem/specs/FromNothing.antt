-- Defines how a desk over a new database in memory handles a list of events and a later request.
use Rattle.club_core.specs.Run as machine
use Rattle.std.specs.Prelude.{ℕ, List, []}
use Rattle.club_core.specs.{Club.empty_club, declared.{reply.Reply.Reply, request.Request.Request}}
use Rattle.club_gate.specs.{Desk.FailsForCause, Runs.{AreEventsOf, AreHandled, club_left, responses_of}, declared.event.{Event.Event, EventReply.EventReply}}
use Rattle.club_store.specs.Failing.{over_connection}
use Rattle.club_tables.specs.Tables.{Represents}
use Rattle.sqlite.specs.{Held.{Held, state}, Steps.over_memory, declared.MemStore.MemStore}

-- A connection to a database in memory.
abbrev pub InMemory : Type 0
InMemory = Held MemStore

-- The desk handled the events in order. Each event was answered by a step of the machine, or
-- failed. An event failed only if the store failed, or if there was no memory for a pass in JSON.
abbrev pub AreHandledInMemory : InMemory → List Event → List EventReply → InMemory → Type 0
AreHandledInMemory = AreHandled (over_connection over_memory)

-- A desk handled the events. The desk's store was a database in memory that started with an empty
-- club.
pub record HandlesFromNothing (events : List Event) (replies : List EventReply) : Type 0 where
  pub start : InMemory
  pub last : InMemory
  pub empty : Represents (state over_memory start) empty_club []
  pub handled : AreHandledInMemory start events replies last

-- A desk handled the events and then a request. If the reply is `Unavailable`, there are two
-- possible causes:
--
-- - The store failed while it read rows or applied the request's change.
-- - The text of the pass is JSON, which takes memory to parse. The store is unchanged.
pub record RepliesFromNothing (events : List Event) (replies : List EventReply) (text : List ℕ) (request : Request) (moment : ℕ) (reply : Reply)
    : Type 0 where
  pub run : HandlesFromNothing events replies
  pub after : InMemory
  pub cause : (seen : List machine.Event) → AreEventsOf events seen
      → FailsForCause (over_connection over_memory) run.last after (club_left empty_club seen (responses_of replies)) text request moment reply
