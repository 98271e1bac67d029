use Rattle.command_line.proofs.RowLemmas as laws
use Rattle.command_line.proofs.laws.rows_take_what_they_are_given.Goals as goal

pub returns : goal.returns
returns g c = laws.rows_take_what_they_are_given
