use Rattle.club_tables.proofs.tables.Tables.day.Goals as goal
use Rattle.club_tables.proofs.{Common.{rules, Vec, IfOk-weaker, Booking, OfDay, AreBookings, Global}, CrashLemmas.read_by, JoinLemmas.day_of_rows}
use Rattle.club_tables.proofs.{JoinLemmas.within_limits, MemberLemmas.day_shown}

pub returns-in-Err-clause-reads : goal.returns-in-Err-clause-reads
returns-in-Err-clause-reads g c =
    read_by g.S.Store (OfDay c.args.day) (λ rows (bookings : Vec Booking Global). AreBookings rows bookings.items) c.args.self.now c.ask.new.self _
    c.ask.ensures.kept c.ask.ensures.survives (λ clean. tt) (search rules) (day_shown g.S.Store c.args.self.now c.args.day)
    (λ club rows bookings shown are. day_of_rows club c.args.day rows bookings.items shown are)

pub returns-clause-reads : goal.returns-clause-reads
returns-clause-reads g c =
    read_by g.S.Store (OfDay c.args.day) (λ rows (bookings : Vec Booking Global). AreBookings rows bookings.items) c.args.self.now c.ask.new.self
    c.bookings_in.result c.ask.ensures.kept c.ask.ensures.survives (search rules) (search rules)
    (day_shown g.S.Store c.args.self.now c.args.day) (λ club rows bookings shown are. day_of_rows club c.args.day rows bookings.items shown are)

pub returns-clause-limits : goal.returns-clause-limits
returns-clause-limits g c = IfOk-weaker c.bookings_in.result _ _ (λ rows are. within_limits c.deref.result.now rows.items are) c.bookings_in.ensures.are
