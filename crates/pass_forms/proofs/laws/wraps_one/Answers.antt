use Rattle.pass_forms.proofs.laws.wraps_one.Goals as goal
use Rattle.pass_forms.proofs.Base64Lemmas.{wraps_one}

pub returns : goal.returns
returns c = wraps_one
