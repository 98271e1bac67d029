-- The invariant of the loop in `make_application`.
use Rattle.command_line.specs.{Application.program_named, Table.{entry_of, with_entries}}
use Rattle.std.proofs.Common.{◌≡◌, IfOk, map, take}
use Rattle.clap.specs.Words.{app_of}
use Rattle.command_line.proofs.table.make_application.Given as goal

abbrev pub invariant-loop-row : goal.invariant-loop-row
invariant-loop-row g l =
    IfOk l.made (λ made. app_of made ≡ with_entries (program_named l.program.name.now) (map entry_of (take l.row-index l.program.rows.now)))
