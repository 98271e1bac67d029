use Rattle.club_tables.proofs.tables.Tables.add_index.Goals as goal
use Rattle.club_tables.proofs.{Common.{inr, refl, index_batch, HoldsClubVersion2}, MakingLemmas.holds_second, OpenLemmas.runs_batch}

pub returns-clause-opens : goal.returns-clause-opens
returns-clause-opens g c =
    let old = c.args.self.now in
    runs_batch g.S.Store HoldsClubVersion2 index_batch old c.run.new.self (holds_second g.S.Store old) c.run.result c.run.ensures.commits
    (inr (inr refl)) (g.met.S.Store.settled c.run.new.self.store)
