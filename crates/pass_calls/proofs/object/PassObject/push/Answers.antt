use Rattle.pass_calls.proofs.object.PassObject.push.Goals as goal
use Rattle.std.proofs.Common.{arith}
use Rattle.pass_calls.proofs.HeldLemmas.{held_push}

pub returns-clause-more : goal.returns-clause-more
returns-clause-more c = grind (arith, held_push)
