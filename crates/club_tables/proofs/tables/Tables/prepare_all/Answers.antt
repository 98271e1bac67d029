use Rattle.club_tables.proofs.tables.Tables.prepare_all.Goals as goal
use Rattle.club_tables.proofs.{Common.{arith, HasCleanDisk, state, FailsToPrepare}, CrashLemmas.survives_none, OpenLemmas.{kept_then, one_at, one_understood}}
use Rattle.club_tables.proofs.OpenLemmas.{all_understood}

pub loop-text-preserved : goal.loop-text-preserved
loop-text-preserved g c =
    let was = c.loop-text.self in
    let now = c.prepare.new.self in
    let quiet = c.prepare.ensures.survives in
    let earlier = λ (clean : HasCleanDisk (state g.S.Store now)). let e : HasCleanDisk (state g.S.Store was) = omega (arith, quiet.clean) in e in
    record {
      survives = survives_none _ (state g.S.Store was) (state g.S.Store now) c.loop-text.invariant.survives quiet;
      kept = λ rest. kept_then (state g.S.Store c.args.self.now) (state g.S.Store was) (state g.S.Store now) earlier (c.loop-text.invariant.kept rest)
          c.prepare.ensures.kept;
      known = λ rest clean is_open.
          let opened = (c.prepare.ensures.kept clean is_open).0 in
          one_understood (state g.S.Store c.args.self.now).committed c.args.texts.now c.loop-text.text-index _ (state g.S.Store was).now
          (c.loop-text.invariant.kept rest (earlier clean) opened).1 c.loop-text-test.true (c.loop-text.invariant.known rest (earlier clean) opened)
          (c.in-Ok.ensures.understood clean);
    }

pub returns-clause-understood : goal.returns-clause-understood
returns-clause-understood g c clean is_open rest =
    all_understood (state g.S.Store c.args.self.now).committed c.args.texts.now c.loop-text.text-index (state g.S.Store c.loop-text.self).committed
    (c.loop-text.invariant.kept rest clean is_open).2 c.loop-text-test.false (c.loop-text.invariant.known rest clean is_open)

pub returns-in-Err-clause-fault : goal.returns-in-Err-clause-fault
returns-in-Err-clause-fault g c clean =
    let was = c.loop-text.self in
    let now = c.prepare.new.self in
    let earlier : HasCleanDisk (state g.S.Store was) = omega (arith, c.prepare.ensures.survives.clean) in
    record {
      from = was;
      after = record { same = c.loop-text.invariant.kept; clean = earlier; fault_count = c.loop-text.invariant.survives.counts };
      failure = one_at (λ text. FailsToPrepare g.S.Store text was now _) c.args.texts.now c.loop-text.text-index _ c.loop-text-test.true
          (c.in-Err.ensures.fault clean);
    }
