use Rattle.club_laws.proofs.runs_with_failures.cancellations_return_the_record.Goals as goal
use Rattle.club_laws.proofs.SoloRuns.{cancelled_with_failures}

pub returns : goal.returns
returns g c = cancelled_with_failures c.tests_the_set.ensures c.tests_the_signature.ensures
