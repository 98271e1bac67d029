-- Example runs of a member's account, of points and repeats, and of a credit and a booking that
-- fail. The account counts the open bookings under all keys of the member, but no booking whose
-- slot has begun. Other runs start from the empty club and have the requests of one member. Another
-- member's events don't change the replies to a member's requests, unless both members use the same
-- slot.
use Rattle.club_core.specs.declared.request.Request.TheVariants as asked
use Rattle.std.specs.Prelude.{true, [], ◌∷◌, Some, Ok, codes, ◌≡◌, ℕ, List, ◌++◌, Option, None, is_none, map}
use Rattle.club_core.specs.{Basis.{Basis, basis_of}, Club.{empty_club, Club, is_closed, taken_in}, Examples.{RunsAs, root, slot_at, noon, late, ask}}
use Rattle.club_core.specs.{Examples.{served_booking, account, served_cancellation, opening, opened_club}, Laws.IsAcceptedIn, Request.{Words, request_slot}}
use Rattle.club_core.specs.{Run.{Event, Asked, Commanded, ToMember, ToOffice, replies_of, club_after, EventReply, Response}, Solo.bookings_of_others}
use Rattle.club_core.specs.{Solo.{own_part, own_events}, declared.command.Command.TheVariants.{AddKey, Debit, CancelBooking, Credit, AddMember, SetFacility}}
use Rattle.club_core.specs.declared.command.{Command.TheVariants.{RevokeKey, CloseSlot, OpenSlot, SetQuota}, OfficeAnswer.{OfficeAnswer, TheVariants.NewKey}}
use Rattle.club_core.specs.declared.{command.OfficeAnswer.TheVariants.Done, refusal.Refusal.TheVariants.{Unavailable, NoPlaces}, reply.Reply.TheVariants.Booked}
use Rattle.club_core.specs.declared.{reply.Reply.TheVariants.{Cancelled, AccountShown, Refused}, request.Request.Request}
use Rattle.club_laws.specs.{Conservation.{keys_given, credits_accepted, debits_accepted, charges_of_replies, refunds_given, total_under}, Failed.Presentation}
use Rattle.club_laws.specs.{Failed.{present_reply, answered_events, answers}, Repeats.WasServed, SoloLaw.replies_to}
use Rattle.club_values.specs.declared.slot.Slot.{Slot}
use Rattle.pass_caveats.specs.declared.caveat.Caveat.TheVariants.{Spend}

-- A request under amy's second key, at noon.
abbrev pub ask_of_other_key : Request → Event
ask_of_other_key request =
    Asked (record { pass = Ok (record { key = Some (codes "amy-2"); caveats = []; is_signed = λ _. true }); request = request }) noon

-- Amy makes two bookings under each of her keys, and cancels one of the four bookings. Another
-- booking's slot has begun when amy views the account. The account has two open bookings.
abbrev pub CountsOverAllKeys : Type 0
CountsOverAllKeys =
    RunsAs
    ((Commanded (AddKey (codes "amy-2") (codes "amy") root), ToOffice (NewKey (codes "amy-2") root))
    ∷ (ask (asked.Book (slot_at 18) 7 0) noon, served_booking 7 200 3)
    ∷ (ask (asked.Book (slot_at 19) 8 0) noon, served_booking 8 200 3)
    ∷ (ask_of_other_key (asked.Book (slot_at 20) 7 0), ToMember (Booked (codes "amy-2") 7 200 3))
    ∷ (ask_of_other_key (asked.Book (slot_at 21) 8 0), ToMember (Booked (codes "amy-2") 8 200 3))
    ∷ (ask_of_other_key (asked.Cancel (slot_at 21) 8), ToMember (Cancelled (codes "amy-2") 8 200))
    ∷ (ask asked.Account late, account 9_400 2 400)
    ∷ [])

-- The moment twelve hours before the slot at 18:00 begins.
abbrev pub at_six : ℕ
at_six = 29_626_920

-- A member books the slots at 18:00 and 19:00, and then repeats the first request. The member then
-- cancels the booking at 18:00, repeats the cancellation, and repeats the first request again.
abbrev pub some_events : List Event
some_events =
    opening
    ++ ask (asked.Book (slot_at 18) 7 2) noon
    ∷ ask (asked.Book (slot_at 19) 8 0) noon
    ∷ ask (asked.Book (slot_at 18) 7 2) late
    ∷ ask (asked.Cancel (slot_at 18) 7) at_six
    ∷ ask (asked.Cancel (slot_at 18) 7) noon
    ∷ ask (asked.Book (slot_at 18) 7 2) noon
    ∷ []

-- The member's charges, credits and refunds, computed from these events and replies.
pub record AreFigures (events : List Event) (replies : List EventReply) (charged credited refunded : ℕ) : Type 0 where
  pub charges : total_under (keys_given (codes "amy") events replies) (charges_of_replies replies) ≡ charged
  pub credits : credits_accepted (codes "amy") events replies ≡ credited
  pub refunds : total_under (keys_given (codes "amy") events replies) (refunds_given events replies) ≡ refunded

-- The bookings cost 600 and 200 points. The member is credited 10,000 points, and the refund is
-- half of the 600 points.
abbrev pub CountsEachOnce : Type 0
CountsEachOnce = AreFigures some_events (replies_of empty_club some_events) 800 10_000 300

-- The office also debits 400 points, and then tries to debit 9,101 points, which is more than the
-- balance.
abbrev pub debited_events : List Event
debited_events = some_events ++ Commanded (Debit (codes "amy") 400) ∷ Commanded (Debit (codes "amy") 9_101) ∷ []

-- The debits are 400 points. The debits don't change the charges, credits and refunds.
pub record CountsADebit : Type 0 where
  pub figures : AreFigures debited_events (replies_of empty_club debited_events) 800 10_000 300
  pub debits : debits_accepted (codes "amy") debited_events (replies_of empty_club debited_events) ≡ 400

-- The office cancels both bookings, but the booking at 18:00 is already cancelled. The member then
-- sends a request to cancel the booking at 19:00, and repeats the request that made this booking.
abbrev pub cancelled_events : List Event
cancelled_events =
    some_events
    ++ Commanded (CancelBooking (codes "amy-1") 8)
    ∷ Commanded (CancelBooking (codes "amy-1") 7)
    ∷ ask (asked.Cancel (slot_at 19) 8) late
    ∷ ask (asked.Book (slot_at 19) 8 0) late
    ∷ []

-- The refund of the booking at 19:00 is its whole charge of 200 points. The refund of the booking
-- at 18:00 is half of its 600 points.
abbrev pub CountsACancellationOnce : Type 0
CountsACancellationOnce = AreFigures cancelled_events (replies_of empty_club cancelled_events) 800 10_000 500

-- The office cancels a booking. The member's request to cancel the same booking then gets a reply
-- with the recorded refund. When the member repeats the request to book, the reply is the booking's
-- first reply.
abbrev pub RepeatsAfterTheOffice : Type 0
RepeatsAfterTheOffice =
    replies_of (club_after empty_club some_events)
    (Commanded (CancelBooking (codes "amy-1") 8) ∷ ask (asked.Cancel (slot_at 19) 8) late ∷ ask (asked.Book (slot_at 19) 8 0) late ∷ [])
    ≡ ToOffice Done ∷ served_cancellation 8 200 ∷ served_booking 8 200 3 ∷ []

-- A member makes a booking and cancels it.
abbrev pub booked_then_cancelled : List Event
booked_then_cancelled = ask (asked.Book (slot_at 18) 7 2) noon ∷ ask (asked.Cancel (slot_at 18) 7) noon ∷ []

-- A repeat of the booking, under a pass with a caveat that allows no spending.
abbrev pub words_again : Words
words_again = record {
  pass = Ok (record { key = Some (codes "amy-1"); caveats = Some (Spend 0) ∷ []; is_signed = λ _. true });
  request = asked.Book (slot_at 18) 7 2;
}

-- The request repeats a served booking, and its pass is accepted.
pub record IsAcceptedRepeat (words : Words) (moment : ℕ) : Type 0 where
  pub was_served : WasServed opened_club booked_then_cancelled words (Booked (codes "amy-1") 7 600 1)
  pub acceptance : IsAcceptedIn (club_after opened_club booked_then_cancelled) words moment

abbrev pub AcceptsARepeat : Type 0
AcceptsARepeat = IsAcceptedRepeat words_again late

-- The desk shows the machine's answer to the office, or `None` if memory or storage failed.
abbrev pub presentation : Presentation (Option OfficeAnswer)
presentation = record { shown = λ answer. Some answer; is_fault = λ returned. is_none returned }

-- Amy becomes a member. Amy's second credit and her booking fail, and then she views her account.
abbrev pub events : List Event
events = opening ++ Commanded (Credit (codes "amy") 5) ∷ ask (asked.Book (slot_at 18) 7 2) noon ∷ ask asked.Account noon ∷ []

abbrev pub replies : List (Response (Option OfficeAnswer))
replies =
    ToOffice (Some Done)
    ∷ ToOffice (Some Done)
    ∷ ToOffice (Some Done)
    ∷ ToOffice (Some (NewKey (codes "amy-1") root))
    ∷ ToOffice None
    ∷ ToMember (Refused Unavailable)
    ∷ ToMember (AccountShown (codes "amy") 10_000 5 0 0)
    ∷ []

-- Removing the two failed events from the run doesn't change the other responses.
abbrev pub LeavesOutFailedEvents : Type 0
LeavesOutFailedEvents =
    answers presentation events replies
    ≡ map (present_reply presentation) (replies_of empty_club (answered_events presentation events replies))

-- The replies to amy's requests in a run from the empty club.
abbrev pub replies_to_amy : List Event → List EventReply
replies_to_amy events = replies_to (codes "amy") empty_club events (replies_of empty_club events)

-- A request under bob's key.
abbrev pub ask_of_bob : Request → Event
ask_of_bob request = Asked (record { pass = Ok (record { key = Some (codes "bob-1"); caveats = []; is_signed = λ _. true }); request = request }) noon

abbrev pub bob_joins : List Event
bob_joins = Commanded (AddMember (codes "bob") 5) ∷ Commanded (Credit (codes "bob") 10_000) ∷ Commanded (AddKey (codes "bob-1") (codes "bob") root) ∷ []

-- Amy books a slot for three persons, views her account, and cancels the booking.
abbrev pub amy_alone : List Event
amy_alone =
    opening ++ ask (asked.Book (slot_at 18) 7 2) noon ∷ ask asked.Account noon ∷ ask (asked.Cancel (slot_at 18) 7) noon ∷ []

abbrev pub AnswersAmyAlone : Type 0
AnswersAmyAlone = replies_to_amy amy_alone ≡ served_booking 7 600 1 ∷ account 9_400 1 600 ∷ served_cancellation 7 600 ∷ []

-- Amy sends the same requests, while bob books slots and cancels bookings. Some of bob's bookings
-- are in amy's slot or have her booking number. The office credits and debits bob, changes his
-- quota, adds a key and revokes a key. The office also cancels one of bob's bookings, and closes
-- and opens another slot.
abbrev pub amy_among_others : List Event
amy_among_others =
    opening
    ++ bob_joins
    ++ ask_of_bob (asked.Book (slot_at 17) 7 3)
    ∷ ask_of_bob (asked.Book (slot_at 18) 9 1)
    ∷ ask_of_bob (asked.Cancel (slot_at 18) 9)
    ∷ Commanded (CloseSlot (slot_at 8))
    ∷ ask (asked.Book (slot_at 18) 7 2) noon
    ∷ ask_of_bob (asked.Book (slot_at 19) 8 0)
    ∷ ask_of_bob (asked.Cancel (slot_at 17) 7)
    ∷ Commanded (Credit (codes "bob") 5)
    ∷ Commanded (Debit (codes "bob") 3)
    ∷ Commanded (SetQuota (codes "bob") 4)
    ∷ ask asked.Account noon
    ∷ Commanded (AddKey (codes "bob-2") (codes "bob") root)
    ∷ Commanded (RevokeKey (codes "bob-1"))
    ∷ Commanded (OpenSlot (slot_at 8))
    ∷ Commanded (CancelBooking (codes "bob-1") 8)
    ∷ ask_of_bob asked.Account
    ∷ ask (asked.Cancel (slot_at 18) 7) noon
    ∷ []

-- Amy gets the same replies with bob as without bob.
abbrev pub AnswersAmyAmongOthers : Type 0
AnswersAmyAmongOthers = replies_to_amy amy_among_others ≡ replies_to_amy amy_alone

-- If bob has one place in amy's slot, the reply to amy's booking states one fewer free place. No
-- other reply to amy changes.
abbrev pub ShowsAmyATakenPlace : Type 0
ShowsAmyATakenPlace =
    replies_to_amy
    (opening
    ++ bob_joins
    ++ ask_of_bob (asked.Book (slot_at 18) 7 0)
    ∷ ask (asked.Book (slot_at 18) 7 2) noon
    ∷ ask asked.Account noon
    ∷ ask (asked.Cancel (slot_at 18) 7) noon
    ∷ [])
    ≡ served_booking 7 600 0 ∷ account 9_400 1 600 ∷ served_cancellation 7 600 ∷ []

-- The office cancels bob's booking in amy's slot. Amy can then book the places that bob had. After
-- the office also cancels amy's booking, amy has her points back, and her repeated requests get the
-- recorded replies.
abbrev pub ShowsAmyHerCancellation : Type 0
ShowsAmyHerCancellation =
    replies_to_amy
    (opening
    ++ bob_joins
    ++ ask_of_bob (asked.Book (slot_at 18) 7 3)
    ∷ ask (asked.Book (slot_at 18) 7 2) noon
    ∷ Commanded (CancelBooking (codes "bob-1") 7)
    ∷ ask (asked.Book (slot_at 18) 7 2) noon
    ∷ Commanded (CancelBooking (codes "amy-1") 7)
    ∷ ask asked.Account noon
    ∷ ask (asked.Cancel (slot_at 18) 7) late
    ∷ ask (asked.Book (slot_at 18) 7 2) late
    ∷ [])
    ≡ ToMember (Refused NoPlaces)
    ∷ served_booking 7 600 1
    ∷ account 10_000 0 0
    ∷ served_cancellation 7 600
    ∷ served_booking 7 600 1
    ∷ []

-- The facility's new price and number of places apply to amy's next booking. The reply to a repeat
-- of amy's earlier booking still states the old charge and the old number of free places.
abbrev pub ShowsAmyNewNumbers : Type 0
ShowsAmyNewNumbers =
    replies_to_amy
    (opening
    ++ bob_joins
    ++ ask_of_bob (asked.Book (slot_at 17) 7 3)
    ∷ ask (asked.Book (slot_at 18) 7 2) noon
    ∷ Commanded (SetFacility (codes "court-1") 5 300 8 22)
    ∷ ask (asked.Book (slot_at 18) 7 2) noon
    ∷ ask (asked.Book (slot_at 19) 8 0) noon
    ∷ ask asked.Account noon
    ∷ [])
    ≡ served_booking 7 600 1 ∷ served_booking 7 600 1 ∷ served_booking 8 300 4 ∷ account 9_100 2 900 ∷ []

-- Laws about the solo machine, which has only one member's part of the club. Outside the member's
-- part of the club, the solo machine sees only the requested slot. The machine sees how many
-- persons other members have in the slot, and whether the slot is closed.

-- The members other than `name` have the same number of persons in the slot in both clubs. The slot
-- is closed in both clubs or in neither club.
abbrev pub HoldAlike : List ℕ → Club → Club → Option Slot → Type 0
HoldAlike name a b None = Unit {0}
HoldAlike name a b (Some slot) =
    (taken_in slot (bookings_of_others name a) ≡ taken_in slot (bookings_of_others name b))
    × (is_closed slot a ≡ is_closed slot b)

-- Suppose that a request's pass names a key of the same member in two clubs. If the requested slot
-- satisfies `HoldAlike`, the solo machine gets the same event for the request from both clubs.
abbrev pub SeesTheSlotAlone : Type 0
SeesTheSlotAlone =
    (name : List ℕ) (a b : Club) (words : Words) (moment : ℕ) (in_a in_b : Basis)
    → basis_of a words ≡ Some in_a
    → basis_of b words ≡ Some in_b
    → in_a.member.name ≡ in_b.member.name
    → HoldAlike name a b (request_slot words.request)
    → own_part name a (Asked words moment) ≡ own_part name b (Asked words moment)

-- In the example runs, amy's own events are the same with and without another member.
abbrev pub SeesNothingOfOthers : Type 0
SeesNothingOfOthers = own_events (codes "amy") empty_club amy_among_others ≡ own_events (codes "amy") empty_club amy_alone
