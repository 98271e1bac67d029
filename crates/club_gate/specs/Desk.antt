-- The state of the desk's store after an event.
use Rattle.club_core.specs.declared.reply.Reply.TheVariants as member_replies
use Rattle.club_gate.specs.declared.fault.Fault.TheVariants as faults
use Rattle.std.specs.Prelude.{◌≡◌, ◌≢◌, ◌⊎◌, ℕ, IsTrue, IsFalse, List, [], ◌∷◌, MatchResult, Option, Some, None, Result, Ok, Err}
use Rattle.club_core.specs.{Answer.verdict_in, Club.Club, Office.office_verdict, Request.Words, Run.{Event, Asked, Commanded, after_change, step, Response}}
use Rattle.club_core.specs.{Store.{FitsClub, IsRead, StoreGhosts}, declared.{change.Change.Change, command.OfficeFault.OfficeFault}}
use Rattle.club_core.specs.declared.{refusal.Refusal.TheVariants.Unavailable, reply.Reply.Reply, request.Request.Request, store.StoreFault.StoreFault}
use Rattle.club_core.specs.declared.{store.StoreFault.TheVariants.Memory, verdict.Verdict.Verdict}
use Rattle.club_gate.specs.{DecodedPass.AreWordsOf, Response.desk_presentation, Served.IsJson, declared.event.OfficeReply.{OfficeReply, TheVariants.Refused}}
use Rattle.club_gate.specs.declared.fault.Fault.{Fault}
use Rattle.club_laws.specs.Failed.{present_reply, has_failed}

-- If the store's disk is clean after a call, the property `IsSo` is true for every club that the
-- store represented before the call.
abbrev pub OfItsClub : {S : Type 0} → StoreGhosts S → S → S → (Club → Type 0) → Type 0
OfItsClub ghosts old new IsSo = ghosts.is_clean new → (club : Club) (others : List Club) → ghosts.represents old club others → IsSo club

abbrev pub change_by : Result (Option Change) OfficeFault → Option Change
change_by (Ok change) = change
change_by (Err fault) = None

-- The change that an event makes to a club, or `None` if the event changes nothing.
abbrev pub change_of : Club → Event → Option Change
change_of club (Asked words moment) = (verdict_in club words moment).change
change_of club (Commanded command) = change_by (office_verdict club command)

-- The change fits the club, or there is no change.
abbrev pub FitsIfAny : Option Change → Club → Type 0
FitsIfAny None club = Unit {0}
FitsIfAny (Some change) club = FitsClub change club

-- The possible crash states after an event. These are the clubs, except the current club, that the
-- store may have after a crash. A committed change removes all possible crash states. An event
-- without a change doesn't change the possible crash states.
abbrev pub others_after : Option Change → List Club → List Club
others_after None others = others
others_after (Some change) others = []

-- If the call succeeded, the store represents the changed club. If the call failed, the store
-- represents the same club as before the call, and the changed club is a possible crash state. If
-- the change is `None`, the changed club is the club before the call.
abbrev pub Settles : {S A E : Type 0} → StoreGhosts S → S → Option Change → Result A E → Club → List Club → Type 0
Settles ghosts new change result club others = MatchResult result
    (λ _. ghosts.represents new (after_change change club) (others_after change others))
    (λ _. ghosts.represents new club (after_change change club ∷ others))

-- The reply is this verdict's reply, and the store represents the club after the verdict's change.
-- A verdict is a reply and an optional change.
pub record IsDecidedBy {S : Type 0} (ghosts : StoreGhosts S) (new : S) (club : Club) (others : List Club) (verdict : Verdict) (reply : Reply) : Type 0 where
  pub available : reply ≢ member_replies.Refused Unavailable
  pub reply_is : reply ≡ verdict.reply
  pub represents : ghosts.represents new (after_change verdict.change club) (others_after verdict.change others)

-- The request failed with `Unavailable`, and the store represents the same club as before the
-- request. Either the possible crash states are unchanged, or the club after the verdict's change
-- is a new possible crash state.
pub record HasFailed {S : Type 0} (ghosts : StoreGhosts S) (new : S) (club : Club) (others : List Club) (verdict : Verdict) (reply : Reply) : Type 0 where
  pub unavailable : reply ≡ member_replies.Refused Unavailable
  pub represents : ghosts.represents new club others ⊎ ghosts.represents new club (after_change verdict.change club ∷ others)

-- For each club that the store represented before the request, either the request was decided by
-- this club's verdict, or the request failed.
abbrev pub DecidesOrFails : {S : Type 0} → StoreGhosts S → S → S → Words → ℕ → Reply → Type 0
DecidesOrFails ghosts old new words moment reply =
    (club : Club) (others : List Club) → ghosts.represents old club others
    → IsDecidedBy ghosts new club others (verdict_in club words moment) reply ⊎ HasFailed ghosts new club others (verdict_in club words moment) reply

-- The response to the event is the machine's reply, and the store represents the machine's next
-- club. The machine is a function that computes the reply to an event and the next club.
pub record IsAnsweredBy {S : Type 0} (ghosts : StoreGhosts S) (new : S) (club : Club) (others : List Club)
    (event : Event) (response : Response OfficeReply) : Type 0 where
  pub success : IsFalse (has_failed desk_presentation event response)
  pub reply : response ≡ present_reply desk_presentation (step club event).reply
  pub represents : ghosts.represents new (step club event).club (others_after (change_of club event) others)

-- The event failed, and the store represents the same club as before the event. Either the possible
-- crash states are unchanged, or the machine's next club is a new possible crash state.
pub record IsRefusedBy {S : Type 0} (ghosts : StoreGhosts S) (new : S) (club : Club) (others : List Club)
    (event : Event) (response : Response OfficeReply) : Type 0 where
  pub failure : IsTrue (has_failed desk_presentation event response)
  pub represents : ghosts.represents new club others ⊎ ghosts.represents new club ((step club event).club ∷ others)

-- For each club that the store represented before the event, either the event was answered, or the
-- event failed.
abbrev pub Steps : {S : Type 0} → StoreGhosts S → S → S → Event → Response OfficeReply → Type 0
Steps ghosts old new event response =
    (club : Club) (others : List Club) → ghosts.represents old club others
    → IsAnsweredBy ghosts new club others event response ⊎ IsRefusedBy ghosts new club others event response

-- The store failed with this fault, while it read rows or applied the change.
abbrev pub FailsAt : {S : Type 0} → StoreGhosts S → S → S → Option Change → StoreFault → Type 0
FailsAt ghosts old new change fault = ghosts.fails None old fault new ⊎ ghosts.fails change old fault new

-- If the reply to the office is a fault of the store, the store failed with the same fault.
abbrev pub NamesItsFault : {S : Type 0} → StoreGhosts S → S → S → Club → Event → OfficeReply → Type 0
NamesItsFault ghosts old new club event reply =
    (fault : StoreFault) → reply ≡ Refused (faults.Store fault) → FailsAt ghosts old new (change_of club event) fault

-- A request gets the reply `Unavailable` only if the store failed or the text is JSON. The store
-- can fail while it reads rows or applies the request's change. Parsing JSON needs memory, and
-- leaves the store unchanged.
abbrev pub FailsForCause : {S : Type 0} → StoreGhosts S → S → S → Club → List ℕ → Request → ℕ → Reply → Type 0
FailsForCause ghosts old new club text request moment reply =
    reply ≡ member_replies.Refused Unavailable
    → ((fault : StoreFault) × ((words : Words) → AreWordsOf text request words → FailsAt ghosts old new (verdict_in club words moment).change fault))
    ⊎ (IsJson text × (new ≡ old))

-- The fault is a fault of the store: memory ran out or storage failed.
abbrev pub IsStoreFault : Fault → Type 0
IsStoreFault (faults.Store failure) = Unit {0}
IsStoreFault (faults.Refused refusal) = ⊥

-- Printing a day's sheet failed with this fault. Either the store failed while it read the rows, or
-- there was no memory for the text of the sheet.
abbrev pub IsSheetFault : {S : Type 0} → StoreGhosts S → S → S → Fault → Type 0
IsSheetFault ghosts old new fault =
    ((failure : StoreFault) × ghosts.fails None old failure new × (fault ≡ faults.Store failure)) ⊎ ((fault ≡ faults.Store Memory) × IsRead ghosts old new)
