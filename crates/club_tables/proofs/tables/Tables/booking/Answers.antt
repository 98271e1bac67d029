use Rattle.club_tables.proofs.tables.Tables.booking.Goals as goal
use Rattle.club_tables.proofs.Common.{rules, ◌≡◌, List, ℕ, Option, Result, Ghosts, Survives, Held, state, Booking, StoreFault, booking_under, OfBooking}
use Rattle.club_tables.proofs.{Common.{IsFirst, IsBookingNamed, reading_statement, ReadsClub, IsKept, booking_values}, CrashLemmas.{read_answer, fewer_read}}
use Rattle.club_tables.{proofs.{JoinLemmas.{first_held, unnamed, one_booking}, MemberLemmas.booking_shown}, specs.Answers.Answers}

read_booking : {S : Type 0} (g : Ghosts S) (key : List ℕ) (number : ℕ) {old new : Held S} {result : Result (Option Booking) StoreFault}
    → Answers g (reading_statement (OfBooking key number)) (IsFirst (IsBookingNamed key number)) old new result → IsKept (state g old) (state g new)
    → Survives (state g old) (state g new) (λ _. ⊥) → ReadsClub g old new result (λ club found. found ≡ booking_under key number club.bookings)
read_booking g key number {old = old} gives kept quiet =
    read_answer (OfBooking key number) gives kept quiet (λ rows can. can) (booking_shown g old key number) (λ club rows found shown first.
    first_held booking_values _ one_booking (booking_under key number club.bookings) rows found shown (unnamed key number rows found first))

pub returns-in-Err-clause-gives : goal.returns-in-Err-clause-gives
returns-in-Err-clause-gives g c =
    let gives = rw (c.params-to_sql.ensures, c.params-to_sql-2.ensures, c.as_str.ensures.value, c.get.ensures.value) at c.in-Err.ensures.gives in
    record {
      success = λ clean. tt;
      failure = λ clean. fewer_read g.S.Store _ _ _ c.args.self.now c.answer.new.self _ (λ rows can.
          (can.0, unnamed c.args.key.now c.args.number rows can.0 can.1)) (gives.failure clean);
    }

pub returns-in-Err-clause-reads : goal.returns-in-Err-clause-reads
returns-in-Err-clause-reads g c =
    read_booking g.S.Store c.args.key.now c.args.number (returns-in-Err-clause-gives g c) c.answer.ensures.kept c.answer.ensures.survives

pub returns-then-is_named-clause-reads : goal.returns-then-is_named-clause-reads
returns-then-is_named-clause-reads g c = read_booking g.S.Store c.args.key.now c.args.number (search rules) c.answer.ensures.kept c.answer.ensures.survives

pub returns-else-is_named-clause-reads : goal.returns-else-is_named-clause-reads
returns-else-is_named-clause-reads g c = read_booking g.S.Store c.args.key.now c.args.number (search rules) c.answer.ensures.kept c.answer.ensures.survives
