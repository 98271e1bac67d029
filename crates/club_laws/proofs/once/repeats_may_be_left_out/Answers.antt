use Rattle.club_laws.proofs.ServedPasses.{left_out}
use Rattle.club_laws.proofs.once.repeats_may_be_left_out.Goals as goal

pub returns : goal.returns
returns c = left_out c.tests_the_set.ensures c.tests_the_signature.ensures
