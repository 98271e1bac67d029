use Rattle.club_laws.proofs.runs_with_failures.conserves_points.Goals as goal
use Rattle.club_laws.proofs.SoloRuns.{conserved_with_failures}

pub returns : goal.returns
returns g c = conserved_with_failures
