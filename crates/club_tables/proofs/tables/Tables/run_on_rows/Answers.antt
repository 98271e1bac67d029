use Rattle.club_tables.proofs.tables.Tables.run_on_rows.Goals as goal
use Rattle.club_tables.proofs.Common.{rules, arith, map, inl, inr, refl, ◌∙◌, ℕ, ◌<◌, List, length, take, get_or, Err, StoreFault, Ghosts, HasCleanDisk}
use Rattle.club_tables.proofs.Common.{Survives, IsRolledBack, Held, state, survives_then, survives_begin, RanInTurn, transaction_start, bound_statement}
use Rattle.club_tables.proofs.{Common.{Commits, StopsAt, Storage, Statement}, CrashLemmas.{execute_keeps, then_rolled, turn_at, RanUpTo, all_ran, fails_at}}
use Rattle.club_tables.proofs.CrashLemmas.{fails_last, commit_survives, survives_as, was_clean, Keeps, commit_keeps, survives_none}

stopped : {S : Type 0} {g : Ghosts S} {fewest : ℕ} {statements : List Statement} {at : ℕ} {old was : Held S} → RanUpTo g fewest statements at old was
    → (d : Statement) (mid new : Held S) (fault : StoreFault) → at < length statements → Survives (state g was) (state g mid) (λ _. ⊥)
    → Survives (state g mid) (state g new) (λ _. ⊥) → (HasCleanDisk (state g new) → IsRolledBack (state g mid) (state g new))
    → (HasCleanDisk (state g mid) → StopsAt g fewest (bound_statement (get_or statements at d)) was mid fault × Keeps (state g was) (state g mid))
    → Commits g fewest (map bound_statement statements) old new (Err fault)
stopped {g = g} {fewest = fewest} {statements = statements} {at = at} {old = old} {was = was} it d mid new fault low step drop undone stops =
    let earlier = λ (clean : HasCleanDisk (state g new)). was_clean (state g mid) (state g new) _ drop clean in
    let first = λ (clean : HasCleanDisk (state g new)). was_clean (state g was) (state g mid) _ step (earlier clean) in
    let quiet = survives_none (state g old) (state g was) (state g new) (survives_begin g old (state g was) _ it.survives)
    (survives_none (state g was) (state g mid) (state g new) step drop) in
    record {
      ran = λ clean. tt;
      kept = λ clean. then_rolled (state g (transaction_start old)) (state g mid) (state g new) (λ opened.
          let now = (stops (earlier clean)).1 opened in
          let before = it.keeps (first clean) now.0 in
          (before.0, now.1 ∙ before.1)) (undone clean);
      survives = survives_as (state g old) (state g new) (λ _. ⊥) _ quiet (λ _ _ none. absurd none);
      fault = λ clean. record {
        mid = mid;
        failure = fails_at g fewest statements at d (transaction_start old) was mid fault low (it.ran (first clean)) (stops (earlier clean)).0;
        fault_count = drop.counts;
      };
    }

pub loop-statement-preserved : goal.loop-statement-preserved
loop-statement-preserved g c =
    let was = c.loop-statement.tx.conn.now in
    let now = c.execute.new.self.conn.now in
    let quiet = c.execute.ensures.survives in
    let it = c.loop-statement.invariant.turns in
    let earlier = λ (clean : HasCleanDisk (state g.S.Store now)). was_clean (state g.S.Store was) (state g.S.Store now) _ quiet clean in
    let one = λ (clean : HasCleanDisk (state g.S.Store now)). c.in-Ok.ensures.runs clean (it.inside (earlier clean)) in
    record {
      same = search rules;
      turns = record {
        survives = survives_none _ (state g.S.Store was) (state g.S.Store now) it.survives quiet;
        ran = λ clean. turn_at g.S.Store c.args.fewest c.args.statements.now c.loop-statement.statement-index _ _ was now _ c.loop-statement-test.true
            (it.ran (earlier clean)) (one clean).0 (omega arith) (one clean).1.was_open;
        inside = λ clean. (one clean).1.mode;
        keeps = λ clean is_open.
            let before = it.keeps (earlier clean) (one clean).1.was_open in (before.0, (one clean).1.committed_is ∙ before.1);
        opened = λ clean some. (one clean).1.is_open;
      };
    }

pub returns : goal.returns
returns g c =
    let mid = c.loop-statement.tx.conn.now in
    let it = c.loop-statement.invariant.turns in
    record {
      commits = record {
        ran = λ clean.
            let earlier : HasCleanDisk (state g.S.Store mid) = omega (arith, c.commit.ensures.survives.clean) in
            let ends = (c.in-Ok-commit.ensures.ok clean).1 in
            let was = (it.keeps earlier ends.was_open).0 in
            let turns = all_ran it (omega arith) earlier in
            (ends.is_open, record { last = mid; was_open = λ _. was; turns = turns; is = ends.committed_is }, cc (ends.now_is, ends.committed_is));
        kept = tt;
        survives = commit_survives it c.commit.new.self.0 (omega arith) c.commit.ensures.survives;
        fault = λ clean. tt;
      };
    }

pub returns-in-Err-commit : goal.returns-in-Err-commit
returns-in-Err-commit g c =
    let old = transaction_start c.args.self.now in
    let mid = c.loop-statement.tx.conn.now in
    let end = c.commit.new.self.0 in
    let it = c.loop-statement.invariant.turns in
    let earlier = λ (clean : HasCleanDisk (state g.S.Store end)). was_clean (state g.S.Store mid) (state g.S.Store end) _ c.commit.ensures.survives clean in
    record {
      commits = record {
        ran = λ clean. tt;
        kept = λ clean. commit_keeps (state g.S.Store old) (state g.S.Store mid) (state g.S.Store end) c.in-Err-commit.error (it.keeps (earlier clean))
            (it.inside (earlier clean)) (c.in-Err-commit.ensures.err clean);
        survives = commit_survives it end (omega arith) c.commit.ensures.survives;
        fault = λ clean.
            let failed = fails_last g.S.Store c.args.fewest _ old mid end c.in-Err-commit.error _ (all_ran it (omega arith) (earlier clean))
            (c.in-Err-commit.ensures.err clean) c.fault_of-in-Err-commit.ensures in
            record { mid = end; failure = failed; fault_count = omega arith };
      };
    }

pub returns-in-Err : goal.returns-in-Err
returns-in-Err g c =
    let was = c.loop-statement.tx.conn.now in
    let mid = c.execute.new.self.conn.now in
    let it = c.loop-statement.invariant.turns in
    record {
      commits = stopped it _ mid c.drop-tx.new.self.0 c.fault_of.result c.loop-statement-test.true c.execute.ensures.survives c.drop-tx.ensures.survives
          c.drop-tx.ensures.undone (λ clean.
          let fails = c.in-Err.ensures.runs clean (it.inside (omega (arith, c.execute.ensures.survives.clean))) in
          (inl (c.in-Err.error, fails, c.fault_of.ensures), execute_keeps _ _ (state g.S.Store was) (state g.S.Store mid) c.in-Err.error fails));
    }

pub returns-then-count-fewest : goal.returns-then-count-fewest
returns-then-count-fewest g c =
    let it = c.loop-statement.invariant.turns in
    let drop = c.drop-tx-then-count-fewest in
    record {
      commits = stopped it _ c.execute.new.self.conn.now drop.new.self.0 Storage c.loop-statement-test.true c.execute.ensures.survives drop.ensures.survives
          drop.ensures.undone (λ clean.
          let runs = c.in-Ok.ensures.runs clean (it.inside (omega (arith, c.execute.ensures.survives.clean))) in
          (inr (c.in-Ok.count, runs.0, c.if-count-fewest.true, refl, runs.1.was_open), λ opened. (runs.1.was_open, runs.1.committed_is)));
    }
