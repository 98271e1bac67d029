use Rattle.club_tables.proofs.tables.Tables.ask.Goals as goal
use Rattle.club_tables.proofs.{Common.{arith, inl, inr, refl, HasCleanDisk, state, FailsToQuery, transaction_start, bound}, CrashLemmas.{Keeps, shown_keeps}}
use Rattle.club_tables.proofs.CrashLemmas.{fails_keeps, too_late_keeps, then_rolled}

pub returns-in-Err-clause-kept : goal.returns-in-Err-clause-kept
returns-in-Err-clause-kept g c clean is_open =
    let old = state g.S.Store (transaction_start c.args.self.now) in
    let mid = state g.S.Store c.query_all.new.self.conn.now in
    let earlier : HasCleanDisk mid = omega (arith, c.drop-tx.ensures.survives.clean) in
    let fails = rw (c.transaction-tx.ensures.begun, c.self.view_is) at (c.in-Err.ensures.err earlier) in
    let stays : Keeps old mid = elim fails [
      | inl failed ↦ fails_keeps c.args.sql.now (bound c.args.params.now) old mid _ failed
      | inr late ↦ too_late_keeps c.args.sql.now (bound c.args.params.now) old mid _ late
    ] in
    then_rolled old mid (state g.S.Store c.drop-tx.new.self.0) stays (c.drop-tx.ensures.undone clean) is_open

pub returns-clause-asked : goal.returns-clause-asked
returns-clause-asked g c clean =
    let mid = c.query_all.new.self.conn.now in
    let earlier : HasCleanDisk (state g.S.Store mid) = omega (arith, c.rollback.ensures.survives.clean) in
    record { mid = mid; shown = rw (c.transaction-tx.ensures.begun, c.self.view_is) at (c.in-Ok.ensures.ok earlier) }

pub returns-clause-kept : goal.returns-clause-kept
returns-clause-kept g c clean is_open =
    let old = state g.S.Store (transaction_start c.args.self.now) in
    let mid = state g.S.Store c.query_all.new.self.conn.now in
    let earlier : HasCleanDisk mid = omega (arith, c.rollback.ensures.survives.clean) in
    let shown = rw (c.transaction-tx.ensures.begun, c.self.view_is) at (c.in-Ok.ensures.ok earlier) in
    then_rolled old mid (state g.S.Store c.rollback.new.self.0) (shown_keeps c.args.sql.now (bound c.args.params.now) old mid _ refl shown)
    (c.rollback.ensures.undone clean) is_open

pub returns-in-Err-clause-fault : goal.returns-in-Err-clause-fault
returns-in-Err-clause-fault g c clean =
    let mid = c.query_all.new.self.conn.now in
    let earlier : HasCleanDisk (state g.S.Store mid) = omega (arith, c.drop-tx.ensures.survives.clean) in
    let fails = rw (c.transaction-tx.ensures.begun, c.self.view_is) at (c.in-Err.ensures.err earlier) in
    let failed : FailsToQuery c.args.sql.now (bound c.args.params.now) (state g.S.Store (transaction_start c.args.self.now))
    (state g.S.Store mid) c.in-Err.error = elim fails [
      | inl refused ↦ refused
      | inr ended ↦ absurd (let e = ended.3 in cc)
    ] in
    record { mid = mid; error = c.in-Err.error; failure = failed; fault_count = c.drop-tx.ensures.survives.counts; fault_is = c.fault_of.ensures }
