use Rattle.pass_json.proofs.any.read_any.Goals as goal
use Rattle.std.proofs.Common.{arith}
use Rattle.pass_json.proofs.ExactLemmas.{unless_memory}

pub returns-clause-computed : goal.returns-clause-computed
returns-clause-computed c = grind (arith, unless_memory)
