-- Defines runs in which some events failed because an allocation or the storage failed.
use Rattle.std.specs.Prelude.{◌≡◌, ◌≢◌, ◌⊎◌, Bool, true, false, IsTrue, IsFalse, List, [], ◌∷◌, ◌++◌, length, map, All, if◌then◌else◌}
use Rattle.club_core.specs.{Club.Club, Run.{IsEvent, Event, Asked, Commanded, step, replies_of, club_after, EventReply, Response, ToMember, ToOffice}}
use Rattle.club_core.specs.declared.{command.OfficeAnswer.OfficeAnswer, refusal.Refusal.TheVariants.Unavailable, reply.Reply.{Reply, TheVariants.Refused}}

-- Describes how a desk shows the machine's answers to the office. `is_fault` tests whether a shown
-- answer reports a failure of memory or storage.
pub record Presentation (O : Type 0) : Type 0 where
  pub shown : OfficeAnswer → O
  pub is_fault : O → Bool

abbrev pub present_reply : {O : Type 0} → Presentation O → EventReply → Response O
present_reply presentation (ToMember reply) = ToMember reply
present_reply presentation (ToOffice answer) = ToOffice (presentation.shown answer)

-- Whether the reply reports a failure of memory or storage.
abbrev pub is_unavailable : Reply → Bool
is_unavailable (Refused Unavailable) = true
is_unavailable reply = false

-- Whether an event failed. A request failed if its reply is `Unavailable`. A command failed if
-- `is_fault` is true for its answer.
abbrev pub has_failed : {O : Type 0} → Presentation O → Event → Response O → Bool
has_failed presentation (Asked words moment) (ToMember reply) = is_unavailable reply
has_failed presentation (Commanded command) (ToOffice answer) = presentation.is_fault answer
has_failed presentation event returned = false

-- An event was answered, which means that the event didn't fail. The response shows the machine's
-- reply to the event, and the next club is the club after the machine's step.
pub record IsAnsweredStep {O : Type 0} (presentation : Presentation O) (club : Club) (event : Event) (returned : Response O) (next : Club) : Type 0 where
  pub success : IsFalse (has_failed presentation event returned)
  pub reply : returned ≡ present_reply presentation (step club event).reply
  pub steps_club : next ≡ (step club event).club

-- An event failed, and the club is unchanged.
pub record IsWithoutEffect {O : Type 0} (presentation : Presentation O) (club : Club) (event : Event) (returned : Response O) (next : Club) : Type 0 where
  pub failure : IsTrue (has_failed presentation event returned)
  pub kept : next ≡ club

abbrev pub IsStep : {O : Type 0} → Presentation O → Club → Event → Response O → Club → Type 0
IsStep presentation club event returned next = IsAnsweredStep presentation club event returned next ⊎ IsWithoutEffect presentation club event returned next

-- A run of a list of events, with the responses to the events. Each event was answered or failed,
-- and `last` is the club after the run.
abbrev pub IsRun : {O : Type 0} → Presentation O → Club → List Event → List (Response O) → Club → Type 0
IsRun presentation club [] [] last = last ≡ club
IsRun presentation club (event ∷ events) (returned ∷ replies) last =
    (next : Club) × IsStep presentation club event returned next × IsRun presentation next events replies last
IsRun presentation club events replies last = ⊥

-- The events that didn't fail.
abbrev pub answered_events : {O : Type 0} → Presentation O → List Event → List (Response O) → List Event
answered_events presentation (event ∷ events) (returned ∷ replies) =
    if has_failed presentation event returned
    then answered_events presentation events replies
    else event ∷ answered_events presentation events replies
answered_events presentation events replies = []

-- The responses to the events that didn't fail.
abbrev pub answers : {O : Type 0} → Presentation O → List Event → List (Response O) → List (Response O)
answers presentation (event ∷ events) (returned ∷ replies) =
    if has_failed presentation event returned then answers presentation events replies else returned ∷ answers presentation events replies
answers presentation events replies = []

-- If the machine handles only the answered events, the machine gives the same responses to them,
-- and ends in the club `last`.
pub record IsRunOfAnswered {O : Type 0} (presentation : Presentation O) (club : Club) (events : List Event) (replies : List (Response O))
    (last : Club) : Type 0 where
  pub responses : answers presentation events replies ≡ map (present_reply presentation) (replies_of club (answered_events presentation events replies))
  pub left : last ≡ club_after club (answered_events presentation events replies)

-- Removing the failed events from a run changes neither the responses to the other events nor the
-- last club.
abbrev pub LeavesOutFailed : Type 0 → Type 0
LeavesOutFailed O =
    (presentation : Presentation O) (club last : Club) (events : List Event) (replies : List (Response O))
    → IsRun presentation club events replies last
    → IsRunOfAnswered presentation club events replies last

-- If all events are within their limits, then all answered events are within their limits.
abbrev pub LeavesEvents : Type 0 → Type 0
LeavesEvents O =
    (presentation : Presentation O) (events : List Event) (replies : List (Response O))
    → All IsEvent events
    → All IsEvent (answered_events presentation events replies)

-- Two consecutive runs. The second run begins with the last club of the first run.
pub record AreRuns {O : Type 0} (presentation : Presentation O) (club last : Club) (front rest : List Event) (before since : List (Response O)) : Type 0 where
  pub now : Club
  pub first : IsRun presentation club front before now
  pub second : IsRun presentation now rest since last

-- A run can be split into two runs.
abbrev pub CutsRuns : Type 0 → Type 0
CutsRuns O =
    (presentation : Presentation O) (club last : Club) (front rest : List Event) (before since : List (Response O))
    → length before ≡ length front
    → IsRun presentation club (front ++ rest) (before ++ since) last
    → AreRuns presentation club last front rest before since

-- Two consecutive runs can be joined into one run.
abbrev pub JoinsRuns : Type 0 → Type 0
JoinsRuns O =
    (presentation : Presentation O) (club last : Club) (front rest : List Event) (before since : List (Response O))
    → AreRuns presentation club last front rest before since
    → IsRun presentation club (front ++ rest) (before ++ since) last

-- Suppose that a desk never shows the machine's answers to the office as faults. Then the machine's
-- own replies form a run (`IsRun`).
abbrev pub RunsWithoutFailures : Type 0 → Type 0
RunsWithoutFailures O =
    (presentation : Presentation O) (club : Club) (events : List Event)
    → ((answer : OfficeAnswer) → IsFalse (presentation.is_fault (presentation.shown answer)))
    → IsRun presentation club events (map (present_reply presentation) (replies_of club events)) (club_after club events)

-- The machine's own replies never report a failure of memory or storage.
abbrev pub NeverUnavailable : Type 0
NeverUnavailable = (club : Club) (event : Event) → (step club event).reply ≢ ToMember (Refused Unavailable)
