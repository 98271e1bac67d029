-- Defines a decision as a list of lines, and the answer to a request after the desk has accepted
-- the pass. Each line has a condition and an answer. The first line whose condition is true
-- determines the answer.
use Rattle.club_core.specs.declared.request.Request.TheVariants as asked
use Rattle.std.specs.Prelude.{Bool, if◌then◌else◌, List, [], ◌∷◌, ℕ, ◌+◌, ◌-◌, ◌==◌, ◌&&◌, not, false, nat_lt, nat_le, Option, Some, None}
use Rattle.club_core.specs.declared.{change.Change.TheVariants.{InsertBooking, MarkCancelled}, refusal.Refusal.{Refusal, TheVariants.NumberUsed}}
use Rattle.club_core.specs.declared.refusal.Refusal.TheVariants.{NoSuchFacility, NoSuchBooking, NotBookable, SlotClosed, NoPlaces, QuotaReached, BalanceTooLow}
use Rattle.club_core.specs.declared.{refusal.Refusal.TheVariants.SlotHasBegun, reply.Reply.{Reply, TheVariants.{SlotShown, Booked, Cancelled, AccountShown}}}
use Rattle.club_core.specs.declared.{reply.Reply.TheVariants.Refused, request.Request.Request, verdict.Verdict.Verdict, view.View.View}
use Rattle.club_rows.specs.{Rows.{same_slot, refund_at, charge_of, is_bookable}, declared.{booking.Booking.Booking, facility.Facility.Facility}}
use Rattle.club_values.specs.{Moment.start_of, declared.slot.Slot.Slot}

-- A condition, and the answer if the condition is true.
pub record Line (A : Type 0) : Type 0 where
  pub fits : Bool
  pub answer : A

abbrev pub line_if : {A : Type 0} → Bool → A → Line A
line_if fits answer = record { fits = fits; answer = answer }

-- The answer of the first line whose condition is true, or `last` if no condition is true.
abbrev pub first_of : {A : Type 0} → List (Line A) → A → A
first_of [] last = last
first_of (l ∷ lines) last = if l.fits then l.answer else first_of lines last

-- A verdict with this reply and without a change.
abbrev pub reply_only : Reply → Verdict
reply_only reply = record { reply = reply; change = None }

-- A verdict with this refusal and without a change.
abbrev pub refusal_verdict : Refusal → Verdict
refusal_verdict refusal = reply_only (Refused refusal)

-- The verdict on a repeated booking. The reply is the same as the first time, and nothing changes.
abbrev pub booked_before : Booking → Verdict
booked_before booking = reply_only (Booked booking.key booking.number booking.charge booking.left)

-- The row of a new booking. The field `left` is the number of free places in the slot after the
-- booking.
abbrev pub new_booking : View → Slot → ℕ → ℕ → Facility → Booking
new_booking view slot number guests facility = record {
  key = view.key.name;
  number = number;
  slot = slot;
  guests = guests;
  charge = charge_of facility guests;
  left = facility.places - (view.taken + guests + 1);
  cancelled = false;
  refund = 0;
}

-- The reply to a new booking, and the change that inserts the booking's row. The booking's key
-- belongs to `member`.
abbrev pub booked_now : Booking → List ℕ → Verdict
booked_now booking member = record {
  reply = Booked booking.key booking.number booking.charge booking.left;
  change = Some (InsertBooking booking member);
}

-- The reply to a cancellation, and the change that records the refund. The booking's key belongs to
-- `member`.
abbrev pub cancelled_now : Booking → List ℕ → ℕ → Verdict
cancelled_now booking member refund = record {
  reply = Cancelled booking.key booking.number refund;
  change = Some (MarkCancelled booking member refund);
}

-- The reply to the cancellation of a booking that is already cancelled.
abbrev pub cancelled_before : Booking → Verdict
cancelled_before booking = reply_only (Cancelled booking.key booking.number booking.refund)

-- The answer to a booking whose number the key has already used. If the slot and the number of
-- guests are the same, the answer repeats the first booking's reply. Otherwise, the answer is the
-- refusal `NumberUsed`.
abbrev pub repeat_booking_verdict : Booking → Slot → ℕ → Verdict
repeat_booking_verdict booking slot guests =
    if same_slot booking.slot slot && booking.guests == guests then booked_before booking else refusal_verdict NumberUsed

-- The conditions under which the rules refuse a booking with an unused number, each with its
-- refusal.
abbrev pub book_lines : View → Slot → ℕ → ℕ → Facility → List (Line Verdict)
book_lines view slot guests moment facility =
    line_if (not (is_bookable facility slot moment)) (refusal_verdict NotBookable)
    ∷ line_if view.closed (refusal_verdict SlotClosed)
    ∷ line_if (nat_lt facility.places (view.taken + guests + 1)) (refusal_verdict NoPlaces)
    ∷ line_if (nat_le view.member.quota view.open_count) (refusal_verdict QuotaReached)
    ∷ line_if (nat_lt view.balance (charge_of facility guests)) (refusal_verdict BalanceTooLow)
    ∷ []

-- The answer to a booking with an unused number.
abbrev pub new_verdict : View → Slot → ℕ → ℕ → ℕ → Option Facility → Verdict
new_verdict view slot number guests moment None = refusal_verdict NoSuchFacility
new_verdict view slot number guests moment (Some facility) =
    first_of (book_lines view slot guests moment facility) (booked_now (new_booking view slot number guests facility) view.key.member)

-- The verdict that `recorded` returns for the recorded booking, or `other` if there is no recorded
-- booking.
abbrev pub recorded_or : Option Booking → (Booking → Verdict) → Verdict → Verdict
recorded_or None recorded other = other
recorded_or (Some booking) recorded other = recorded booking

-- The answer to a booking. If the key has already used the number, the booking is a repeat.
abbrev pub book_verdict : View → Slot → ℕ → ℕ → ℕ → Verdict
book_verdict view slot number guests moment =
    recorded_or view.booking (λ booking. repeat_booking_verdict booking slot guests)
    (new_verdict view slot number guests moment view.facility)

-- The conditions under which the cancellation of a recorded booking changes nothing, each with its
-- answer.
abbrev pub cancel_lines : Booking → Slot → ℕ → List (Line Verdict)
cancel_lines booking slot moment =
    line_if (not (same_slot booking.slot slot)) (refusal_verdict NumberUsed)
    ∷ line_if booking.cancelled (cancelled_before booking)
    ∷ line_if (nat_le (start_of booking.slot) moment) (refusal_verdict SlotHasBegun)
    ∷ []

-- The answer to a cancellation of a recorded booking. The booking's key belongs to `member`.
abbrev pub cancel_recorded_verdict : Booking → List ℕ → Slot → ℕ → Verdict
cancel_recorded_verdict booking member slot moment =
    first_of (cancel_lines booking slot moment) (cancelled_now booking member (refund_at booking moment))

-- The answer to a cancellation whose number the key hasn't used.
abbrev pub unknown_verdict : Option Facility → Verdict
unknown_verdict None = refusal_verdict NoSuchFacility
unknown_verdict (Some facility) = refusal_verdict NoSuchBooking

-- The answer to a cancellation.
abbrev pub cancel_verdict : View → Slot → ℕ → Verdict
cancel_verdict view slot moment =
    recorded_or view.booking (λ booking. cancel_recorded_verdict booking view.key.member slot moment) (unknown_verdict view.facility)

-- The answer to a request for the state of a slot at this facility.
abbrev pub shown_at : View → Slot → Option Facility → Verdict
shown_at view slot None = refusal_verdict NoSuchFacility
shown_at view slot (Some facility) =
    reply_only (SlotShown slot facility.kind facility.price facility.places view.taken view.closed)

-- The answer to a request for the member's account.
abbrev pub account_verdict : View → Verdict
account_verdict view = reply_only (AccountShown view.member.name view.balance view.member.quota view.open_count view.spent)

-- The answer to a request after the desk has accepted the pass.
abbrev pub verdict_of : View → Request → ℕ → Verdict
verdict_of view (asked.View slot) moment = shown_at view slot view.facility
verdict_of view (asked.Book slot number guests) moment = book_verdict view slot number guests moment
verdict_of view (asked.Cancel slot number) moment = cancel_verdict view slot moment
verdict_of view asked.Account moment = account_verdict view
