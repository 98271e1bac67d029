use Rattle.club_tables.proofs.tables.Tables.make_tables.Goals as goal
use Rattle.club_tables.proofs.{Common.{inl, refl, table_batch, HoldsClubAnyVersion}, OpenLemmas.{holds_found, runs_batch}}

pub returns-clause-opens : goal.returns-clause-opens
returns-clause-opens g c =
    let old = c.args.self.now in
    runs_batch g.S.Store HoldsClubAnyVersion table_batch old c.run.new.self (holds_found g.S.Store old) c.run.result c.run.ensures.commits
    (inl refl) (g.met.S.Store.settled c.run.new.self.store)
