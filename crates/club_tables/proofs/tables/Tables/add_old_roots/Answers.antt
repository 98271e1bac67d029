use Rattle.club_tables.proofs.tables.Tables.add_old_roots.Goals as goal
use Rattle.club_tables.proofs.{Common.{inl, inr, refl, migration, HoldsClubVersion1}, MakingLemmas.holds_first, OpenLemmas.runs_batch}

pub returns-clause-opens : goal.returns-clause-opens
returns-clause-opens g c =
    let old = c.args.self.now in
    runs_batch g.S.Store HoldsClubVersion1 migration old c.run.new.self (holds_first g.S.Store old) c.run.result c.run.ensures.commits
    (inr (inl refl)) (g.met.S.Store.settled c.run.new.self.store)
