-- The invariant of the loop in `command_named`.
use Rattle.command_line.specs.Table.{entry_named, entry_of}
use Rattle.std.proofs.Common.{◌≡◌, map, drop}
use Rattle.command_line.proofs.table.command_named.Given as goal

abbrev pub invariant-loop-row : goal.invariant-loop-row
invariant-loop-row g l = entry_named l.name (map entry_of l.rows) ≡ entry_named l.name (map entry_of (drop l.row-index l.rows))
