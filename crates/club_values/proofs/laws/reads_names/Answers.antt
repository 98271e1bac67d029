use Rattle.club_values.proofs.laws.reads_names.Goals as goal
use Rattle.club_values.proofs.DayLemmas.{reads_names}

pub returns : goal.returns
returns c = reads_names
