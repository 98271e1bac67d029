-- Laws about runs in which some events failed.
use Rattle.club_core.specs.declared.request.Request.TheVariants as asked
use Rattle.std.specs.Prelude.{◌≡◌, ℕ, IsFalse, List, ◌∷◌, ◌++◌, length, map, All, Some}
use Rattle.club_core.specs.{Basis.key_of, Club.{Club, empty_club, member_named, IsSound}, Laws.IsAcceptedIn, Request.Words, Run.{IsEvent, Event, Asked, step}}
use Rattle.club_core.specs.{Run.{replies_of, club_after, ToMember, Response}, Solo.{own_events, part_of, solo_replies}, declared.reply.Reply.Reply}
use Rattle.club_core.specs.declared.reply.Reply.TheVariants.{Cancelled}
use Rattle.club_laws.specs.{Conservation.{IsConserved, HasPlaces}, Failed.{Presentation, has_failed, IsRun, answered_events, answers}, Repeats.WasCancelled}
use Rattle.club_laws.specs.{Repeats.{refund_by_office, IsBookedOrCancelled}, SoloLaw.replies_to}
use Rattle.club_rows.specs.declared.{booking.Booking.Booking, member.Member.Member}
use Rattle.club_values.specs.declared.slot.Slot.{Slot}

-- A run from a sound club ends in a sound club, even if some events failed. The values of all
-- events must be within their limits.
abbrev pub SoundWithFailures : Type 0 → Type 0
SoundWithFailures O =
    (presentation : Presentation O) (club last : Club) (events : List Event) (replies : List (Response O))
    → IsSound club
    → All IsEvent events
    → IsRun presentation club events replies last
    → IsSound last

-- A run from the empty club neither creates nor loses points, even if some events failed. The
-- values of all events must be within their limits.
abbrev pub ConservesWithFailures : Type 0 → Type 0
ConservesWithFailures O =
    (presentation : Presentation O) (last : Club) (events : List Event) (replies : List (Response O)) (name : List ℕ) (member : Member)
    → All IsEvent events
    → IsRun presentation empty_club events replies last
    → member_named name last ≡ Some member
    → let answered = answered_events presentation events replies in
    IsConserved last answered (replies_of empty_club answered) member

-- No slot is overbooked after a run from the empty club, even if some events failed. The values of
-- all events must be within their limits.
abbrev pub PlacesWithFailures : Type 0 → Type 0
PlacesWithFailures O =
    (presentation : Presentation O) (last : Club) (events : List Event) (replies : List (Response O)) (slot : Slot)
    → All IsEvent events
    → IsRun presentation empty_club events replies last
    → HasPlaces slot last

-- The history contains a request to book or cancel that was served with this reply. `words`
-- contains the same request, and a pass that names the same key.
pub record WasReturned {O : Type 0} (history : List Event) (replies : List (Response O)) (words : Words) (reply : Reply) : Type 0 where
  pub front : List Event
  pub before : List (Response O)
  pub first : Words
  pub moment : ℕ
  pub rest : List Event
  pub since : List (Response O)
  pub place : history ≡ front ++ Asked first moment ∷ rest
  pub reply_place : replies ≡ before ++ ToMember reply ∷ since
  pub beside : length before ≡ length front
  pub success : IsBookedOrCancelled reply
  pub same_key : key_of words.pass ≡ key_of first.pass
  pub same_request : words.request ≡ first.request

-- An accepted repeat of a served request gets the first response, unless the repeat fails. Removing
-- the repeat from the run changes neither the other responses nor the last club.
abbrev pub RepeatsWithFailures : Type 0 → Type 0
RepeatsWithFailures O =
    (presentation : Presentation O) (club last : Club) (history rest : List Event) (before since : List (Response O))
    (words : Words) (moment : ℕ) (returned : Response O) (reply : Reply)
    → length before ≡ length history
    → IsRun presentation club (history ++ Asked words moment ∷ rest) (before ++ returned ∷ since) last
    → WasReturned history before words reply
    → IsAcceptedIn (club_after club (answered_events presentation history before)) words moment
    → (IsFalse (has_failed presentation (Asked words moment) returned) → returned ≡ ToMember reply)
    × IsRun presentation club (history ++ rest) (before ++ since) last

-- If the office has cancelled a booking, a member's accepted request to cancel the same booking
-- gets the recorded refund, unless the request fails. Removing this request from the run changes
-- neither the other responses nor the last club.
abbrev pub CancellationsWithFailures : Type 0 → Type 0
CancellationsWithFailures O =
    (presentation : Presentation O) (club last : Club) (history rest : List Event) (before since : List (Response O))
    (words : Words) (moment : ℕ) (returned : Response O) (key : List ℕ) (number : ℕ) (booking : Booking)
    → length before ≡ length history
    → IsRun presentation club (history ++ Asked words moment ∷ rest) (before ++ returned ∷ since) last
    → WasCancelled club (answered_events presentation history before) key number booking
    → key_of words.pass ≡ Some key
    → words.request ≡ asked.Cancel booking.slot number
    → IsAcceptedIn (club_after club (answered_events presentation history before)) words moment
    → (IsFalse (has_failed presentation (Asked words moment) returned) → returned ≡ ToMember (Cancelled key number (refund_by_office booking)))
    × IsRun presentation club (history ++ rest) (before ++ since) last

-- In this club, an accepted repeat of a served request gets the same reply and changes nothing.
abbrev pub RepeatsServedReplies : {O : Type 0} → Club → List Event → List (Response O) → Type 0
RepeatsServedReplies club events replies =
    (words : Words) (moment : ℕ) (reply : Reply)
    → WasReturned events replies words reply
    → IsAcceptedIn club words moment
    → step club (Asked words moment) ≡ record { reply = ToMember reply; club = club }

-- After a run, an accepted repeat of a served request gets the same reply. The repeat also gets the
-- same reply after one more event, such as a failed event whose change survived a crash.
abbrev pub RepeatsAfterOneMore : Type 0 → Type 0
RepeatsAfterOneMore O =
    (presentation : Presentation O) (club last : Club) (events : List Event) (replies : List (Response O))
    → IsRun presentation club events replies last
    → RepeatsServedReplies last events replies × ((event : Event) → RepeatsServedReplies (step last event).club events replies)

-- In a run from a sound club, a member's part of the club and the member's own events determine the
-- replies to the member's requests.
abbrev pub SoloLawWithFailures : Type 0 → Type 0
SoloLawWithFailures O =
    (presentation : Presentation O) (name : List ℕ) (club last : Club) (events : List Event) (replies : List (Response O))
    → IsSound club
    → IsRun presentation club events replies last
    → let answered = answered_events presentation events replies in
    replies_to name club answered (answers presentation events replies)
    ≡ map ToMember (solo_replies (part_of name club) (own_events name club answered))

-- Suppose that a member's part of the club and the member's own events are the same in two runs
-- from sound clubs. Then the replies to the member's requests are the same in both runs.
abbrev pub SoloLawOfTwoWithFailures : Type 0 → Type 0
SoloLawOfTwoWithFailures O =
    (presentation : Presentation O) (name : List ℕ) (a b last end : Club) (events others : List Event) (replies returned : List (Response O))
    → IsSound a
    → IsSound b
    → IsRun presentation a events replies last
    → IsRun presentation b others returned end
    → part_of name a ≡ part_of name b
    → own_events name a (answered_events presentation events replies) ≡ own_events name b (answered_events presentation others returned)
    → replies_to name a (answered_events presentation events replies) (answers presentation events replies)
    ≡ replies_to name b (answered_events presentation others returned) (answers presentation others returned)
