use Rattle.club_tables.proofs.tables.Tables.prepare.Goals as goal
use Rattle.club_tables.proofs.{Common.{arith, [], HasCleanDisk, state, transaction_start}, CrashLemmas.{Keeps, not_run_keeps, then_rolled}}

pub returns-in-Err-clause-kept : goal.returns-in-Err-clause-kept
returns-in-Err-clause-kept g c clean is_open =
    let old = state g.S.Store (transaction_start c.args.self.now) in
    let mid = state g.S.Store c.prepare.new.self.conn.now in
    let earlier : HasCleanDisk mid = omega (arith, c.drop-tx.ensures.survives.clean) in
    let fails = rw (c.transaction-tx.ensures.begun, c.self.view_is) at (c.in-Err.ensures.err earlier []) in
    let stays : Keeps old mid = not_run_keeps c.args.sql.now [] old mid _ fails in
    then_rolled old mid (state g.S.Store c.drop-tx.new.self.0) stays (c.drop-tx.ensures.undone clean) is_open

pub returns-in-Err-clause-fault : goal.returns-in-Err-clause-fault
returns-in-Err-clause-fault g c clean =
    let mid = c.prepare.new.self.conn.now in
    let earlier : HasCleanDisk (state g.S.Store mid) = omega (arith, c.drop-tx.ensures.survives.clean) in
    let failed = rw (c.transaction-tx.ensures.begun, c.self.view_is) at (c.in-Err.ensures.err earlier []) in
    record { mid = mid; error = c.in-Err.error; failure = failed; fault_count = c.drop-tx.ensures.survives.counts; fault_is = c.fault_of.ensures }
