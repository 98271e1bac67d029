-- The events at the desk and the corresponding events of the machine, the responses to a list of
-- events, and the state of the store afterwards. The machine is a function that computes the reply
-- to an event and the next club. An event failed if its response is a fault of memory or storage.
use Rattle.club_core.specs.Run as machine
use Rattle.club_gate.specs.declared.event.Event.TheVariants as events
use Rattle.club_core.specs.declared.request.Request.TheVariants as asked
use Rattle.std.specs.{List.AllZip, Prelude.{◌≡◌, List, ◌⊎◌, ℕ, ◌≤◌, IsTrue, IsFalse, [], ◌∷◌, ◌++◌, length, map, sum_by, All, Contains, Some, None}}
use Rattle.base64.specs.GeneralPurpose.{IsBytes}
use Rattle.club_core.specs.{Basis.key_of, Club.{Club, empty_club, bookings_of, member_named, IsSound, cost_of}, Laws.IsAcceptedIn, Request.Words, Run.Asked}
use Rattle.club_core.specs.{Run.{step, replies_of, club_after, Response, ToMember}, Solo.{own_events, part_of, solo_replies}, Store.StoreGhosts}
use Rattle.club_core.specs.declared.reply.Reply.{Reply, TheVariants.Cancelled}
use Rattle.club_gate.specs.{DecodedPass.AreWordsOf, Desk.{FailsForCause, NamesItsFault, OfItsClub, Steps, change_of}, Response.{desk_presentation, response_of}}
use Rattle.club_gate.specs.declared.event.{Event.Event, EventReply.{EventReply, TheVariants.{Replied, Answered}}, OfficeReply.OfficeReply}
use Rattle.club_laws.specs.{Conservation.{IsConserved, HasPlaces}, Failed.{has_failed, IsRun, answered_events, answers}, Repeats.WasCancelled}
use Rattle.club_laws.specs.{Repeats.refund_by_office, RunsWithFailures.{RepeatsServedReplies, WasReturned}, SoloLaw.replies_to}
use Rattle.club_rows.specs.declared.{booking.Booking.Booking, member.Member.Member}
use Rattle.club_values.specs.declared.slot.Slot.{Slot}

-- `seen` is the machine's event for this event at the desk. For a request, the machine's event has
-- the decoded pass instead of the text. For a command, the machine's event is the same command.
abbrev pub IsEventOf : Event → machine.Event → Type 0
IsEventOf (events.Asked words moment) seen =
    (decoded : Words) × AreWordsOf words.pass.now words.request decoded × (seen ≡ machine.Asked decoded moment)
IsEventOf (events.Commanded command) seen = seen ≡ machine.Commanded command

-- `seen` lists the machine's events for these events at the desk, in the same order.
abbrev pub AreEventsOf : List Event → List machine.Event → Type 0
AreEventsOf events seen = AllZip IsEventOf events seen

-- If the event is a request, the text of its pass is a list of bytes.
abbrev pub IsEventOfBytes : Event → Type 0
IsEventOfBytes (events.Asked words moment) = IsBytes words.pass.now
IsEventOfBytes (events.Commanded command) = Unit {0}

-- A response of the desk to an event.
abbrev pub DeskResponse : Type 0
DeskResponse = Response OfficeReply

abbrev pub responses_of : List EventReply → List DeskResponse
responses_of replies = map response_of replies

-- The events that were answered, in order. The result leaves out the events that failed.
abbrev pub events_answered : List machine.Event → List DeskResponse → List machine.Event
events_answered events responses = answered_events desk_presentation events responses

-- The club after the answered events.
abbrev pub club_left : Club → List machine.Event → List DeskResponse → Club
club_left club events responses = club_after club (events_answered events responses)

-- The responses to the answered events are the responses of the machine. The failed events leave
-- the club unchanged.
abbrev pub IsAnsweredRun : Club → List machine.Event → List DeskResponse → Type 0
IsAnsweredRun club events responses = IsRun desk_presentation club events responses (club_left club events responses)

-- None of the answered events changes the club.
abbrev pub MakesNoChange : Club → List machine.Event → List DeskResponse → Type 0
MakesNoChange club events responses = All (λ event. change_of club event ≡ None) (events_answered events responses)

-- The event failed after the last change of the club. The events before the failed event lead to
-- the club `last`. No event after the failed event changes the club `last`.
pub record FailedLast (club last : Club) (events : List machine.Event) (responses : List DeskResponse) (event : machine.Event) : Type 0 where
  pub front : List machine.Event
  pub rest : List machine.Event
  pub before : List DeskResponse
  pub response : DeskResponse
  pub since : List DeskResponse
  pub place : events ≡ front ++ event ∷ rest
  pub response_place : responses ≡ before ++ response ∷ since
  pub beside : length before ≡ length front
  pub ran : IsRun desk_presentation club front before last
  pub failure : IsTrue (has_failed desk_presentation event response)
  pub no_change : MakesNoChange last rest since

-- The run changed nothing, and a crash before the run could have left the club `left`.
abbrev pub WasLeftBefore : Club → List Club → Club → List machine.Event → List DeskResponse → Club → Type 0
WasLeftBefore club others last events responses left = (last ≡ club) × MakesNoChange last events responses × Contains others left

-- An event failed after the last change of the run. The club `left` is the club that the failed
-- event would have made from the club `last`.
abbrev pub IsLeftByFailure : Club → Club → List machine.Event → List DeskResponse → Club → Type 0
IsLeftByFailure club last events responses left =
    (event : machine.Event) × FailedLast club last events responses event × (left ≡ (step last event).club)

-- A crash after the run may leave the club `left`. The run starts from `club` and leads to the club
-- `last`. A crash before the run could have left one of the clubs `others`.
abbrev pub MayBeLeft : Club → List Club → Club → List machine.Event → List DeskResponse → Club → Type 0
MayBeLeft club others last events responses left =
    WasLeftBefore club others last events responses left ⊎ IsLeftByFailure club last events responses left

-- `now` is `club` itself, or the club after one more event.
abbrev pub IsWithinOneEvent : Club → Club → Type 0
IsWithinOneEvent club now = (now ≡ club) ⊎ ((event : machine.Event) × (now ≡ (step club event).club))

-- The store represents the club after the answered events. Each other club that a crash may leave
-- satisfies `MayBeLeft`. An accepted repeat of a served booking or cancellation gets the same
-- response and changes nothing. This holds for the store's club, and for each club after one more
-- event.
pub record LeavesClub {S : Type 0} (Represents : S → Club → List Club → Type 0) (new : S) (club : Club) (others : List Club) (events : List machine.Event)
    (responses : List DeskResponse) : Type 0 where
  pub left : List Club
  pub represents : Represents new (club_left club events responses) left
  pub each : All (MayBeLeft club others (club_left club events responses) events responses) left
  pub again : (now : Club) → IsWithinOneEvent (club_left club events responses) now → RepeatsServedReplies now events responses

-- A member's requests get the replies of the solo machine. The solo machine uses only the member's
-- part of the club and the member's own events.
abbrev pub IsSolo : Club → List machine.Event → List DeskResponse → Type 0
IsSolo club events responses =
    (name : List ℕ)
    → replies_to name club (events_answered events responses) (answers desk_presentation events responses)
    ≡ map ToMember (solo_replies (part_of name club) (own_events name club (events_answered events responses)))

-- Suppose that a member's part of the club and the member's own events are the same in a second run
-- from a sound club. Then the member's requests get the same replies in both runs.
abbrev pub IsAsInAnother : Club → List machine.Event → List DeskResponse → Type 0
IsAsInAnother club events responses =
    (name : List ℕ) (other end : Club) (others : List machine.Event) (replies : List DeskResponse)
    → IsSound other
    → IsRun desk_presentation other others replies end
    → part_of name club ≡ part_of name other
    → own_events name club (events_answered events responses) ≡ own_events name other (events_answered others replies)
    → replies_to name club (events_answered events responses) (answers desk_presentation events responses)
    ≡ replies_to name other (events_answered others replies) (answers desk_presentation others replies)

-- A repeat of a served booking or cancellation gets the same response, if the repeat is accepted
-- and doesn't fail. Leaving out an accepted repeat changes neither the other responses nor the
-- final club.
abbrev pub IsOnce : Club → List machine.Event → List DeskResponse → Type 0
IsOnce club events responses =
    (history rest : List machine.Event) (before since : List DeskResponse) (words : Words) (moment : ℕ) (reply : Reply) (again : DeskResponse)
    → events ≡ history ++ Asked words moment ∷ rest
    → responses ≡ before ++ again ∷ since
    → length before ≡ length history
    → WasReturned history before words reply
    → IsAcceptedIn (club_left club history before) words moment
    → (IsFalse (has_failed desk_presentation (Asked words moment) again) → again ≡ ToMember reply)
    × IsRun desk_presentation club (history ++ rest) (before ++ since) (club_left club events responses)

-- A member may send a request to cancel a booking that the office has already cancelled. If the
-- request is accepted and doesn't fail, the response states the recorded refund. Leaving out the
-- accepted request changes neither the other responses nor the final club.
abbrev pub ReturnsTheRecord : Club → List machine.Event → List DeskResponse → Type 0
ReturnsTheRecord club events responses =
    (history rest : List machine.Event) (before since : List DeskResponse) (words : Words) (moment : ℕ) (key : List ℕ) (number : ℕ) (booking : Booking)
    (again : DeskResponse)
    → events ≡ history ++ Asked words moment ∷ rest
    → responses ≡ before ++ again ∷ since
    → length before ≡ length history
    → WasCancelled club (events_answered history before) key number booking
    → key_of words.pass ≡ Some key
    → words.request ≡ asked.Cancel booking.slot number
    → IsAcceptedIn (club_left club history before) words moment
    → (IsFalse (has_failed desk_presentation (Asked words moment) again) → again ≡ ToMember (Cancelled key number (refund_by_office booking)))
    × IsRun desk_presentation club (history ++ rest) (before ++ since) (club_left club events responses)

-- In a run from the empty club, points are conserved. A member's balance plus debits plus charges
-- equals the member's credits plus refunds.
abbrev pub Conserves : Club → List machine.Event → List DeskResponse → Type 0
Conserves club events responses =
    (name : List ℕ) (member : Member)
    → club ≡ empty_club
    → member_named name (club_left club events responses) ≡ Some member
    → IsConserved (club_left club events responses) (events_answered events responses) (replies_of club (events_answered events responses)) member

-- The bookings of each member cost at most the points credited to the member.
abbrev pub IsNeverNegative : Club → Type 0
IsNeverNegative club = All (λ (member : Member). sum_by cost_of (bookings_of member.name club) ≤ member.credited) club.members

-- No slot has more persons than its facility has places.
abbrev pub IsNeverOverbooked : Club → Type 0
IsNeverOverbooked club = (slot : Slot) → HasPlaces slot club

-- The laws of a run that starts from `club`.
pub record IsLawfulRun (club : Club) (events : List machine.Event) (responses : List DeskResponse) : Type 0 where
  -- The responses to the answered events are the responses of the machine.
  pub run : IsAnsweredRun club events responses
  -- A member's replies depend only on the member's part of the club and the member's own events.
  -- For a request, the member's own event includes how many persons other members have in the slot,
  -- and whether the slot is closed.
  pub solo : IsSolo club events responses
  pub solo_of_two : IsAsInAnother club events responses
  -- An accepted repeat of a served booking or cancellation gets the same reply, unless the repeat
  -- fails. The repeat changes nothing.
  pub once : IsOnce club events responses
  -- If the office has cancelled a booking, the member's accepted request to cancel the booking gets
  -- the recorded refund, unless the request fails. The request changes nothing.
  pub returns_the_record : ReturnsTheRecord club events responses
  -- A run from the empty club neither creates nor loses points. After each run, no member's balance
  -- is below 0, and no slot is overbooked.
  pub conserves : Conserves club events responses
  pub never_negative : IsNeverNegative (club_left club events responses)
  pub never_overbooked : IsNeverOverbooked (club_left club events responses)

-- If an event failed, the contract of `Desk::ask` or `Desk::office` allows the cause of the
-- failure.
abbrev pub EventFailsForCause : {S : Type 0} → StoreGhosts S → S → S → Club → Event → EventReply → Type 0
EventFailsForCause ghosts old new club (events.Asked words moment) (Replied reply) =
    FailsForCause ghosts old new club words.pass.now words.request moment reply
EventFailsForCause ghosts old new club (events.Commanded command) (Answered reply) = NamesItsFault ghosts old new club (machine.Commanded command) reply
EventFailsForCause ghosts old new club event reply = ⊥

module _ {S : Type 0} (ghosts : StoreGhosts S) where
  -- The desk handled one event. `old` is the store before the event, and `new` is the store after
  -- the event.
  pub record IsHandled (old : S) (event : Event) (reply : EventReply) (new : S) : Type 0 where
    pub was_clean : ghosts.is_clean new → ghosts.is_clean old
    pub steps : ghosts.is_clean new → (seen : machine.Event) × IsEventOf event seen × Steps ghosts old new seen (response_of reply)
    pub failed : OfItsClub ghosts old new (λ club. EventFailsForCause ghosts old new club event reply)

  -- The desk handled the events in order. Each event starts with the store as the previous event
  -- left it.
  pub data AreHandled (old : S) : List Event → List EventReply → S → Type 0 where
    no_event : AreHandled old [] [] old
    one_event : (events : List Event) (replies : List EventReply) (event : Event) (reply : EventReply) (now new : S) → AreHandled old events replies now
        → IsHandled now event reply new → AreHandled old (events ++ event ∷ []) (replies ++ reply ∷ []) new

-- The desk handled a list of events in order. Each event was answered or failed.
pub record IsFollowed {S : Type 0} (ghosts : StoreGhosts S) (new : S) (club : Club) (others : List Club) (events : List machine.Event)
    (responses : List DeskResponse) : Type 0 where
  pub last : Club
  pub ran : IsRun desk_presentation club events responses last
  pub left : List Club
  pub represents : ghosts.represents new last left
  pub each : All (MayBeLeft club others last events responses) left
