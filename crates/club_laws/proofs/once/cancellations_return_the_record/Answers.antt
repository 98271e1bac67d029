use Rattle.club_laws.proofs.ServedPasses.{cancelled_by_record}
use Rattle.club_laws.proofs.once.cancellations_return_the_record.Goals as goal

pub returns : goal.returns
returns c = cancelled_by_record c.tests_the_set.ensures c.tests_the_signature.ensures
