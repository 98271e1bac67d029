-- Example runs that start from a small example club.
use Rattle.std.specs.Prelude.{◌≡◌, ℕ, true, false, List, [], ◌∷◌, Option, Some, Ok, replicate, codes, map}
use Rattle.club_values.specs.declared.{kind.Kind.TheVariants.Court, slot.Slot.Slot}
use Rattle.pass_caveats.specs.declared.caveat.Caveat.{Caveat, TheVariants.Spend}
use Rattle.club_core.specs.{Club.{Club, empty_club}, Run.{Event, Asked, Commanded, replies_of, club_after, EventReply, ToMember, ToOffice}}
use Rattle.club_core.specs.declared.command.Command.TheVariants.{AddMember, Credit, Debit, AddFacility, SetFacility, AddKey, RevokeKey, CancelBooking}
use Rattle.club_core.specs.declared.command.{Command.TheVariants.{CloseSlot, OpenSlot, SetQuota}, OfficeAnswer.TheVariants.{Done, NotDone}}
use Rattle.club_core.specs.declared.command.OfficeFault.TheVariants.{Exists, Unknown, OutOfRange, SlotInUse}
use Rattle.club_core.specs.declared.{reply.Reply.TheVariants.{Booked, SlotShown, Cancelled, AccountShown, Refused}, request.Request.Request}
use Rattle.club_core.specs.declared.refusal.Refusal.TheVariants as refusals
use Rattle.club_core.specs.declared.request.Request.TheVariants as asked

abbrev pub root : List ℕ
root = replicate 16 7

-- The commands that set up the example club. Member amy has the quota 5, 10,000 points and the key
-- amy-1. Facility court-1 has 4 places for 200 points each, and is open from 8 to 22.
abbrev pub opening : List Event
opening =
    Commanded (AddMember (codes "amy") 5)
    ∷ Commanded (Credit (codes "amy") 10_000)
    ∷ Commanded (AddFacility (codes "court-1") Court 4 200 8 22)
    ∷ Commanded (AddKey (codes "amy-1") (codes "amy") root)
    ∷ []

abbrev pub opened_club : Club
opened_club = club_after empty_club opening

-- The slot of court-1 on 2026-05-01 at this hour.
abbrev pub slot_at : ℕ → Slot
slot_at hour = record { facility = codes "court-1"; day = 20574; hour = hour }

-- The moments of the example requests. `noon` is 2026-04-20T12:00. `soon` is an hour before the
-- slot at 18 begins, and `late` is a minute after the slot begins.
abbrev pub noon : ℕ
noon = 29_611_440

abbrev pub soon : ℕ
soon = 29_627_580

abbrev pub late : ℕ
late = 29_627_641

-- A request with a signed pass of the key amy-1. The pass has these caveats.
abbrev pub ask_with : List (Option Caveat) → Request → ℕ → Event
ask_with caveats request moment =
    Asked (record { pass = Ok (record { key = Some (codes "amy-1"); caveats = caveats; is_signed = λ _. true }); request = request }) moment

abbrev pub ask : Request → ℕ → Event
ask request moment = ask_with [] request moment

abbrev pub served_booking : ℕ → ℕ → ℕ → EventReply
served_booking number charge left = ToMember (Booked (codes "amy-1") number charge left)

abbrev pub served_cancellation : ℕ → ℕ → EventReply
served_cancellation number refund = ToMember (Cancelled (codes "amy-1") number refund)

abbrev pub account : ℕ → ℕ → ℕ → EventReply
account balance count spent = ToMember (AccountShown (codes "amy") balance 5 count spent)

-- In a run from the opened club, each event gets the reply beside it.
abbrev pub RunsAs : List (Event × EventReply) → Type 0
RunsAs rows = replies_of opened_club (map (λ row. row.0) rows) ≡ map (λ row. row.1) rows

-- A member books a slot, views the account, and cancels the booking.
abbrev pub BooksAndCancels : Type 0
BooksAndCancels =
    RunsAs
    ((ask (asked.Book (slot_at 18) 7 2) noon, served_booking 7 600 1)
    ∷ (ask asked.Account noon, account 9_400 1 600)
    ∷ (ask (asked.Cancel (slot_at 18) 7) noon, served_cancellation 7 600)
    ∷ [])

-- If a member repeats a booking request, the reply is the same as the first time, even after the
-- booking's cancellation and after the slot has begun. The repeated request charges nothing.
abbrev pub RepeatsAfterACancellation : Type 0
RepeatsAfterACancellation =
    RunsAs
    ((ask (asked.Book (slot_at 18) 7 2) noon, served_booking 7 600 1)
    ∷ (ask (asked.Cancel (slot_at 18) 7) noon, served_cancellation 7 600)
    ∷ (ask (asked.Book (slot_at 18) 7 2) late, served_booking 7 600 1)
    ∷ (ask (asked.Book (slot_at 18) 7 1) noon, ToMember (Refused refusals.NumberUsed))
    ∷ (ask asked.Account late, account 10_000 0 0)
    ∷ [])

-- The office can close a slot only while nobody has booked it. A closed slot can't be booked.
abbrev pub ClosesASlot : Type 0
ClosesASlot =
    RunsAs
    ((ask (asked.Book (slot_at 18) 7 2) noon, served_booking 7 600 1)
    ∷ (Commanded (CloseSlot (slot_at 18)), ToOffice (NotDone SlotInUse))
    ∷ (ask (asked.Cancel (slot_at 18) 7) noon, served_cancellation 7 600)
    ∷ (Commanded (CloseSlot (slot_at 18)), ToOffice Done)
    ∷ (Commanded (CloseSlot (slot_at 18)), ToOffice (NotDone Exists))
    ∷ (ask (asked.Book (slot_at 18) 8 0) noon, ToMember (Refused refusals.SlotClosed))
    ∷ [])

-- The office opens a closed slot, and a member then books it. Opening an open slot changes nothing.
-- A slot of an unknown facility can't be opened.
abbrev pub OpensASlot : Type 0
OpensASlot =
    RunsAs
    ((Commanded (CloseSlot (slot_at 18)), ToOffice Done)
    ∷ (Commanded (CloseSlot (slot_at 19)), ToOffice Done)
    ∷ (Commanded (OpenSlot (slot_at 18)), ToOffice Done)
    ∷ (ask (asked.Book (slot_at 18) 7 2) noon, served_booking 7 600 1)
    ∷ (Commanded (OpenSlot (slot_at 18)), ToOffice Done)
    ∷ (ask (asked.Book (slot_at 18) 8 0) noon, served_booking 8 200 0)
    ∷ (ask (asked.Book (slot_at 19) 9 0) noon, ToMember (Refused refusals.SlotClosed))
    ∷ (Commanded (OpenSlot (record (slot_at 18) { facility = codes "court-2" })), ToOffice (NotDone Unknown))
    ∷ [])

-- A debit lowers the balance. The rules refuse a debit of more than the balance.
abbrev pub DebitsAMember : Type 0
DebitsAMember =
    RunsAs
    ((ask (asked.Book (slot_at 18) 7 2) noon, served_booking 7 600 1)
    ∷ (Commanded (Debit (codes "amy") 9_401), ToOffice (NotDone OutOfRange))
    ∷ (Commanded (Debit (codes "amy") 9_400), ToOffice Done)
    ∷ (ask asked.Account noon, account 0 1 600)
    ∷ (ask (asked.Book (slot_at 19) 8 0) noon, ToMember (Refused refusals.BalanceTooLow))
    ∷ (ask (asked.Cancel (slot_at 18) 7) noon, served_cancellation 7 600)
    ∷ (Commanded (Debit (codes "amy") 1), ToOffice Done)
    ∷ (ask asked.Account noon, account 599 0 0)
    ∷ (Commanded (Debit (codes "amy") 0), ToOffice (NotDone OutOfRange))
    ∷ (Commanded (Debit (codes "bob") 1_000_001), ToOffice (NotDone OutOfRange))
    ∷ (Commanded (Debit (codes "bob") 1), ToOffice (NotDone Unknown))
    ∷ [])

-- A new quota applies from the next booking on. The member's open bookings remain valid, even if
-- their number exceeds the new quota.
abbrev pub SetsAQuota : Type 0
SetsAQuota =
    RunsAs
    ((ask (asked.Book (slot_at 18) 7 0) noon, served_booking 7 200 3)
    ∷ (ask (asked.Book (slot_at 19) 8 0) noon, served_booking 8 200 3)
    ∷ (Commanded (SetQuota (codes "amy") 1), ToOffice Done)
    ∷ (ask asked.Account noon, ToMember (AccountShown (codes "amy") 9_600 1 2 400))
    ∷ (ask (asked.Book (slot_at 20) 9 0) noon, ToMember (Refused refusals.QuotaReached))
    ∷ (Commanded (SetQuota (codes "amy") 3), ToOffice Done)
    ∷ (ask (asked.Book (slot_at 20) 9 0) noon, served_booking 9 200 3)
    ∷ (Commanded (SetQuota (codes "amy") 100), ToOffice (NotDone OutOfRange))
    ∷ (Commanded (SetQuota (codes "bob") 1), ToOffice (NotDone Unknown))
    ∷ [])

-- A facility's new places, price and opening hours apply from the next booking on. Earlier bookings
-- don't change. The office can't set the places below the number of persons in a slot.
abbrev pub SetsAFacility : Type 0
SetsAFacility =
    RunsAs
    ((ask (asked.Book (slot_at 18) 7 2) noon, served_booking 7 600 1)
    ∷ (Commanded (SetFacility (codes "court-1") 2 300 19 23), ToOffice (NotDone SlotInUse))
    ∷ (Commanded (SetFacility (codes "court-1") 3 300 19 23), ToOffice Done)
    ∷ (ask (asked.View (slot_at 18)) noon, ToMember (SlotShown (slot_at 18) Court 300 3 3 false))
    ∷ (ask (asked.Book (slot_at 18) 7 2) noon, served_booking 7 600 1)
    ∷ (ask (asked.Book (slot_at 18) 8 0) noon, ToMember (Refused refusals.NotBookable))
    ∷ (ask (asked.Book (slot_at 22) 9 0) noon, served_booking 9 300 2)
    ∷ (ask (asked.Cancel (slot_at 18) 7) noon, served_cancellation 7 600)
    ∷ (Commanded (SetFacility (codes "court-1") 1 0 0 24), ToOffice Done)
    ∷ (ask asked.Account noon, account 9_700 1 300)
    ∷ (Commanded (SetFacility (codes "court-1") 51 0 0 24), ToOffice (NotDone OutOfRange))
    ∷ (Commanded (SetFacility (codes "court-2") 0 0 0 24), ToOffice (NotDone OutOfRange))
    ∷ (Commanded (SetFacility (codes "court-2") 1 0 0 24), ToOffice (NotDone Unknown))
    ∷ [])

-- A cancellation by the office refunds the whole charge, even after the slot has begun. If the
-- member then repeats the booking or the cancellation, the reply contains the recorded charge or
-- refund.
abbrev pub CancelsForAMember : Type 0
CancelsForAMember =
    RunsAs
    ((ask (asked.Book (slot_at 18) 7 2) noon, served_booking 7 600 1)
    ∷ (ask (asked.Cancel (slot_at 18) 7) late, ToMember (Refused refusals.SlotHasBegun))
    ∷ (Commanded (CancelBooking (codes "amy-1") 7), ToOffice Done)
    ∷ (ask asked.Account late, account 10_000 0 0)
    ∷ (ask (asked.Book (slot_at 18) 7 2) late, served_booking 7 600 1)
    ∷ (ask (asked.Cancel (slot_at 18) 7) late, served_cancellation 7 600)
    ∷ (Commanded (CancelBooking (codes "amy-1") 7), ToOffice Done)
    ∷ (ask asked.Account late, account 10_000 0 0)
    ∷ (ask (asked.Book (slot_at 18) 8 3) noon, served_booking 8 800 0)
    ∷ (Commanded (CancelBooking (codes "amy-1") 9), ToOffice (NotDone Unknown))
    ∷ (Commanded (CancelBooking (codes "amy-2") 7), ToOffice (NotDone Unknown))
    ∷ [])

-- If the member has already cancelled a booking, a cancellation by the office doesn't change the
-- refund.
abbrev pub KeepsARefund : Type 0
KeepsARefund =
    RunsAs
    ((ask (asked.Book (slot_at 18) 7 2) noon, served_booking 7 600 1)
    ∷ (ask (asked.Cancel (slot_at 18) 7) soon, served_cancellation 7 300)
    ∷ (Commanded (CancelBooking (codes "amy-1") 7), ToOffice Done)
    ∷ (ask asked.Account noon, account 9_700 0 300)
    ∷ [])

-- The office can cancel a booking of a revoked key. The cancellation frees the booking's places.
abbrev pub CancelsUnderARevokedKey : Type 0
CancelsUnderARevokedKey =
    RunsAs
    ((ask (asked.Book (slot_at 18) 7 2) noon, served_booking 7 600 1)
    ∷ (Commanded (RevokeKey (codes "amy-1")), ToOffice Done)
    ∷ (Commanded (CloseSlot (slot_at 18)), ToOffice (NotDone SlotInUse))
    ∷ (Commanded (CancelBooking (codes "amy-1") 7), ToOffice Done)
    ∷ (Commanded (CloseSlot (slot_at 18)), ToOffice Done)
    ∷ [])

-- Under a spend limit of 600 points, a key can spend refunded points again.
abbrev pub KeepsASpendLimit : Type 0
KeepsASpendLimit =
    let limited = ask_with (Some (Spend 600) ∷ []) in
    RunsAs
    ((limited (asked.Book (slot_at 18) 7 2) noon, served_booking 7 600 1)
    ∷ (limited (asked.Book (slot_at 19) 8 0) noon, ToMember (Refused (refusals.CaveatDenies 1)))
    ∷ (limited (asked.Cancel (slot_at 18) 7) noon, served_cancellation 7 600)
    ∷ (limited (asked.Book (slot_at 19) 8 0) noon, served_booking 8 200 3)
    ∷ [])
