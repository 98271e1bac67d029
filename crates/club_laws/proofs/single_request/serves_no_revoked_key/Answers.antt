use Rattle.club_laws.proofs.ServedPasses.{serves_nothing}
use Rattle.club_laws.proofs.single_request.serves_no_revoked_key.Goals as goal

pub returns : goal.returns
returns c = serves_nothing c.tests_the_set.ensures c.tests_the_signature.ensures
