use Rattle.club_values.proofs.laws.reads_numbers.Goals as goal
use Rattle.club_values.proofs.DayLemmas.{reads_numbers}

pub returns : goal.returns
returns c = reads_numbers
