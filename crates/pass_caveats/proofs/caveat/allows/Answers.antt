use Rattle.pass_caveats.proofs.caveat.allows.Goals as goal
use Rattle.pass_caveats.proofs.ChoiceLemmas.{same_as_permits}

pub returns-clause-function : goal.returns-clause-function
returns-clause-function c = same_as_permits c.args.caveat.now c.args.ask.now c.is_in_set.result c.is_in_set.ensures
