use Rattle.club_tables.proofs.tables.Tables.ensure_index.Goals as goal
use Rattle.club_tables.proofs.{Common.{inl, inr, refl, state, IsOpeningBatch, index_batch, HoldsClubVersion2}, CrashLemmas.{commits_nothing, was_clean}}
use Rattle.club_tables.proofs.{CrashLemmas.at_once, MakingLemmas.named_represents, OpenLemmas.{batch_failed, keeps_after, opens_after, opens_not}}

pub returns-in-Ok-clause-opens : goal.returns-in-Ok-clause-opens
returns-in-Ok-clause-opens g c =
    let old = c.args.self.now in
    let mid = c.prepare.new.self in
    record {
      represents = λ clean. named_represents g.S.Store old mid c.prepare.ensures.kept c.prepare.ensures.survives (c.in-Ok.ensures.understood clean);
      done = λ clean. inl (c.in-Ok.ensures.understood clean, c.prepare.ensures.kept);
      keeps_club = λ clean. tt;
      fault = λ clean. tt;
      survives = commits_nothing g.S.Store 0 IsOpeningBatch old mid c.prepare.ensures.survives;
    }

pub returns-in-Err-Memory-clause-opens : goal.returns-in-Err-Memory-clause-opens
returns-in-Err-Memory-clause-opens g c =
    let old = c.args.self.now in
    let mid = c.prepare.new.self in
    opens_not g.S.Store old mid (λ rest. c.prepare.ensures.kept) c.prepare.ensures.survives HoldsClubVersion2 (λ clean. record {
      from = old;
      after = at_once g.S.Store old (was_clean (state g.S.Store old) (state g.S.Store mid) _ c.prepare.ensures.survives clean);
      failure = inl (refl, inr (rw c.in-Err-Memory.field-0-is at (c.in-Err-Memory.ensures.fault clean)));
    })

pub returns-in-Err-Storage-clause-opens : goal.returns-in-Err-Storage-clause-opens
returns-in-Err-Storage-clause-opens g c =
    let old = c.args.self.now in
    let mid = c.prepare.new.self in
    opens_after g.S.Store old mid (λ rest. c.prepare.ensures.kept) c.prepare.ensures.survives c.add_index.ensures.opens
    (keeps_after g.S.Store old mid (λ rest. c.prepare.ensures.kept) c.prepare.ensures.survives HoldsClubVersion2) (λ club others second. second)
    (λ earlier clean ran. inr (mid, earlier, c.prepare.ensures.kept, ran)) (batch_failed g.S.Store index_batch (inr (inr refl)) old mid c.add_index.new.self)
