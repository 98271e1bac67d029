use Rattle.clubdesk_arguments.proofs.laws.ask_for_one_job.Goals as goal
use Rattle.clubdesk_arguments.proofs.ArgumentsLemmas.{reads_once}

pub returns : goal.returns
returns c = c.arguments_ask_once.ensures (reads_once c.rows_answer_once.ensures)
