use Rattle.club_tables.proofs.tables.Tables.run_on_rows.Given as goal
use Rattle.club_tables.proofs.{Common.◌≡◌, CrashLemmas.RanUpTo}

abbrev pub invariant-loop-statement : goal.invariant-loop-statement
invariant-loop-statement g l = record {
  same : l.tx.conn.ghost_name ≡ l.initial.tx.conn.ghost_name;
  turns : RanUpTo g.S.Store l.fn.fewest l.statements l.statement-index l.fn.self l.tx.conn.now;
}
