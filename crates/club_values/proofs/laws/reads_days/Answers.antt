use Rattle.club_values.proofs.laws.reads_days.Goals as goal
use Rattle.club_values.proofs.DayLemmas.{reads_days}

pub returns : goal.returns
returns c = reads_days
