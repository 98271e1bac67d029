-- The invariant of the loop in `make_command`.
use Rattle.command_line.specs.{Application.IsMade, Table.rule_for}
use Rattle.std.proofs.Common.{IfOk, fold, map, take}
use Rattle.clap.specs.Words.{new_app, with_rule}
use Rattle.command_line.proofs.table.make_command.Given as goal

abbrev pub invariant-loop-argument : goal.invariant-loop-argument
invariant-loop-argument g l = IfOk l.made (IsMade (fold with_rule (new_app l.row.name.now) (map rule_for (take l.argument-index l.row.arguments.now))))
