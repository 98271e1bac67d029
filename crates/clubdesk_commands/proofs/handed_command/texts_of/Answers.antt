use Rattle.clubdesk_commands.proofs.handed_command.texts_of.Goals as goal
use Rattle.std.proofs.Common.{arith}
use Rattle.clubdesk_commands.proofs.RunLemmas.{not_texts}

pub returns-in_default : goal.returns-in_default
returns-in_default c =
    not_texts c.args.values.now c.loop-value.value-index c.value-item.result c.loop-value-test.true c.value-item.is (grind arith)
