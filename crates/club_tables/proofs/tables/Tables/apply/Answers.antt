use Rattle.club_tables.proofs.tables.Tables.apply.Goals as goal
use Rattle.club_tables.proofs.{Common.arith, OpenLemmas.{changes, refuses}}

pub returns-clause-makes : goal.returns-clause-makes
returns-clause-makes g c =
    changes c.suiting_changes_keep_sound.ensures c.args.change.now (c.is_within.ensures.yes (grind arith)) c.run_change.ensures.commits
    (g.met.S.Store.settled c.run_change.new.self.store)

pub returns-then-not-is_within-clause-makes : goal.returns-then-not-is_within-clause-makes
returns-then-not-is_within-clause-makes g c =
    refuses c.args.change.now (c.is_within.ensures.no (grind arith)) (c.is_within.ensures.unfit (grind arith)) c.args.self.now
