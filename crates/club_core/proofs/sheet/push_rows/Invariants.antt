use Rattle.std.{proofs.Common.{◌≡◌, ◌++◌, take}, specs.{Prelude.flat_map, String.string_bytes}}
use Rattle.club_core.specs.Sheet as spec
use Rattle.club_core.proofs.sheet.push_rows.Given as goal

abbrev pub invariant-loop-row : goal.invariant-loop-row
invariant-loop-row l = string_bytes l.text ≡ string_bytes l.initial.text ++ flat_map spec.row_text (take l.row-index l.rows)
