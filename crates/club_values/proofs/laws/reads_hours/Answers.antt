use Rattle.club_values.proofs.laws.reads_hours.Goals as goal
use Rattle.club_values.proofs.DayLemmas.{reads_hours}

pub returns : goal.returns
returns c = reads_hours
