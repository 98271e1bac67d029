use Rattle.std.proofs.Common.{arith}
use Rattle.club_core.proofs.laws.tests_the_signature.Goals as goal

pub returns : goal.returns
returns c = λ pass key moment. (λ e. grind arith, λ signed. grind arith)
