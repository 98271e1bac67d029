use Rattle.passtool_commands.proofs.laws.ask_for_one_command.Goals as goal
use Rattle.passtool_commands.proofs.CommandLemmas.{reads_once}

pub returns : goal.returns
returns c = c.arguments_ask_once.ensures (reads_once c.rows_answer_once.ensures)
