use Rattle.club_laws.proofs.runs_with_failures.repeats_after_one_more.Goals as goal
use Rattle.club_laws.proofs.SoloRuns.{again_with_failures}

pub returns : goal.returns
returns g c = again_with_failures c.tests_the_set.ensures c.tests_the_signature.ensures
