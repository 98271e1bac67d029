-- Defines the club as a state machine, with its steps, its runs and the limits of an event's
-- values.
use Rattle.club_core.specs.declared.request.Request.TheVariants as asked
use Rattle.std.specs.Prelude.{ℕ, List, [], ◌∷◌, Option, Some, None, Result, Ok, Err}
use Rattle.club_core.specs.{After.after, Answer.verdict_in, Club.Club, Office.{office_verdict, done_answer, IsCommand}, Request.Words}
use Rattle.club_core.specs.declared.{change.Change.Change, command.{Command.Command, OfficeAnswer.{OfficeAnswer, TheVariants.NotDone}, OfficeFault.OfficeFault}}
use Rattle.club_core.specs.declared.{reply.Reply.Reply, request.Request.Request, verdict.Verdict.Verdict}
use Rattle.club_rows.specs.Rows.{IsBookingNumber, IsGuests, IsSlot}

-- A request and the moment when the request comes, or a command of the office.
pub data Event : Type 0 where
  Asked : (words : Words) (moment : ℕ) → Event
  Commanded : (command : Command) → Event

-- The response to an event: the reply to a request, or the answer to a command. `O` is the type of
-- an answer to a command.
pub data Response (O : Type 0) : Type 0 where
  ToMember : (reply : Reply) → Response O
  ToOffice : (answer : O) → Response O

-- The response of the club's state machine.
abbrev pub EventReply : Type 0
EventReply = Response OfficeAnswer

-- The response to an event, and the club after the event.
pub record Outcome : Type 0 where
  pub reply : EventReply
  pub club : Club

-- The club after a change. Without a change, the club stays the same.
abbrev pub after_change : Option Change → Club → Club
after_change None club = club
after_change (Some change) club = after change club

-- A command's answer, and the club after the command. A refused command leaves the club unchanged.
-- A command without a change succeeds and leaves the club unchanged.
abbrev pub command_outcome : Club → Command → Result (Option Change) OfficeFault → Outcome
command_outcome club command (Err fault) = record { reply = ToOffice (NotDone fault); club = club }
command_outcome club command (Ok change) = record { reply = ToOffice (done_answer command); club = after_change change club }

abbrev pub verdict_outcome : Club → Verdict → Outcome
verdict_outcome club verdict = record { reply = ToMember verdict.reply; club = after_change verdict.change club }

abbrev pub step : Club → Event → Outcome
step club (Asked words moment) = verdict_outcome club (verdict_in club words moment)
step club (Commanded command) = command_outcome club command (office_verdict club command)

-- The responses to a list of events, in order.
abbrev pub replies_of : Club → List Event → List EventReply
replies_of club [] = []
replies_of club (event ∷ events) = (step club event).reply ∷ replies_of (step club event).club events

abbrev pub club_after : Club → List Event → Club
club_after club [] = club
club_after club (event ∷ events) = club_after (step club event).club events

abbrev pub IsRequest : Request → Type 0
IsRequest (asked.View slot) = IsSlot slot
IsRequest (asked.Book slot number guests) = IsSlot slot × IsBookingNumber number × IsGuests guests
IsRequest (asked.Cancel slot number) = IsSlot slot × IsBookingNumber number
IsRequest asked.Account = Unit {0}

-- Each value of the event is within its limits. The moment of a request may be any number.
abbrev pub IsEvent : Event → Type 0
IsEvent (Asked words moment) = IsRequest words.request
IsEvent (Commanded command) = IsCommand command
