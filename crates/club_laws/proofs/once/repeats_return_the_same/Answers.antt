use Rattle.club_laws.proofs.ServedPasses.{step_of_repeat}
use Rattle.club_laws.proofs.once.repeats_return_the_same.Goals as goal

pub returns : goal.returns
returns c = step_of_repeat c.tests_the_set.ensures c.tests_the_signature.ensures
