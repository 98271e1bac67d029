use Rattle.club_laws.proofs.runs_with_failures.repeats_return_the_same.Goals as goal
use Rattle.club_laws.proofs.SoloRuns.{repeat_with_failures}

pub returns : goal.returns
returns g c = repeat_with_failures c.tests_the_set.ensures c.tests_the_signature.ensures
