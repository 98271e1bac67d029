use Rattle.club_tables.proofs.Common.{◌≡◌, take, All, IsTakenRow, most_in}
use Rattle.club_tables.proofs.most.U32FromRows.from_rows.Given as goal

abbrev pub invariant-loop-row : goal.invariant-loop-row
invariant-loop-row l = record {
  returned : l.most ≡ most_in (take l.row-index l.rows);
  limits : All IsTakenRow (take l.row-index l.rows);
}
