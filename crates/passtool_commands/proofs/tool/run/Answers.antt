use Rattle.passtool_commands.proofs.tool.run.Goals as goal
use Rattle.std.proofs.Common.{map}
use Rattle.passtool_commands.proofs.CommandLemmas.{performs_alone, performs_arguments, refused_alone, refused_arguments}

pub returns-in-Err-clause-arguments : goal.returns-in-Err-clause-arguments
returns-in-Err-clause-arguments g c = rw c.from.ensures (refused_arguments (map g.S.AsStr.text c.args.arguments.now) c.in-Err.fault c.in-Err.ensures)

pub returns-in-Err-clause-command : goal.returns-in-Err-clause-command
returns-in-Err-clause-command g c = λ command ask.
    rw c.from.ensures
    (refused_alone c.ask_for_one_command.ensures (map g.S.AsStr.text c.args.arguments.now) c.in-Err.fault c.in-Err.ensures _ _ _ _ command ask)

pub returns-clause-arguments : goal.returns-clause-arguments
returns-clause-arguments g c =
    let read = rw c.in-Ok-Perform.field-0-is at c.in-Ok-Perform.ensures in
    performs_arguments c.ask_for_one_command.ensures (map g.S.AsStr.text c.args.arguments.now) c.in-Ok-Perform.command read _ _ _ _ _ c.perform.ensures.answer

pub returns-clause-command : goal.returns-clause-command
returns-clause-command g c = λ command asked.
    let read = rw c.in-Ok-Perform.field-0-is at c.in-Ok-Perform.ensures in
    performs_alone c.ask_for_one_command.ensures (map g.S.AsStr.text c.args.arguments.now) c.in-Ok-Perform.command read _ _ _ _ _ command asked
    c.perform.ensures.answer

pub returns-clause-unread : goal.returns-clause-unread
returns-clause-unread g c = λ none.
    c.perform.ensures.unread (none c.in-Ok-Perform.command (rw c.in-Ok-Perform.field-0-is at c.in-Ok-Perform.ensures))
