use Rattle.club_laws.proofs.conservation.conserves_points.Goals as goal
use Rattle.club_laws.proofs.PointRuns.{conserved}

pub returns : goal.returns
returns c = conserved
