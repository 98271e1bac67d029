use Rattle.club_tables.proofs.Common.{◌≡◌, ◌<◌, ◌^◌, take, sum_by, All, cost_in, IsCostRow}
use Rattle.club_tables.proofs.sum.U64FromRows.from_rows.Given as goal

abbrev pub invariant-loop-row : goal.invariant-loop-row
invariant-loop-row l = record {
  returned : l.sum ≡ sum_by cost_in (take l.row-index l.rows);
  fits : l.sum < 2 ^ 64;
  limits : All IsCostRow (take l.row-index l.rows);
}
