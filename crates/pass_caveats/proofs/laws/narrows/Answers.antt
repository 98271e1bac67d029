use Rattle.pass_caveats.proofs.laws.narrows.Goals as goal
use Rattle.pass_caveats.proofs.CaveatLemmas.{narrower}

pub returns : goal.returns
returns c = narrower
