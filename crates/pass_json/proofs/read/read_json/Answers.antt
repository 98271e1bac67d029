use Rattle.pass_json.proofs.read.read_json.Goals as goal
use Rattle.std.proofs.Common.{arith}
use Rattle.pass_json.proofs.ExactLemmas.{unless_memory}

pub returns-clause-spelling : goal.returns-clause-spelling
returns-clause-spelling c = grind (arith, unless_memory)
