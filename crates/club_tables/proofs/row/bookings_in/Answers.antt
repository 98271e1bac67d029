use Rattle.club_tables.proofs.row.bookings_in.Goals as goal
use Rattle.club_tables.proofs.{Common.arith, JoinLemmas.{bookings_more, no_bookings}}

pub returns-in_default-clause-storage : goal.returns-in_default-clause-storage
returns-in_default-clause-storage c _ = no_bookings c.args.rows.now c.loop-row.row-index c.row-item.result (omega arith) c.row-item.is c.in_default.ensures

pub loop-row-preserved : goal.loop-row-preserved
loop-row-preserved c =
    let bookings = c.loop-row.bookings.items in
    let more = bookings_more c.args.rows.now c.loop-row.row-index c.row-item.result bookings c.in-Some.booking (omega arith) c.row-item.is
    c.loop-row.invariant.0 c.in-Some.ensures in
    (rw c.push_reserved.ensures.items more, omega arith, omega arith)
