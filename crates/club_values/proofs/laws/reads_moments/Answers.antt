use Rattle.club_values.proofs.laws.reads_moments.Goals as goal
use Rattle.club_values.proofs.DayLemmas.{reads_moments}

pub returns : goal.returns
returns c = reads_moments
