use Rattle.pass_forms.proofs.WholeV2.{computes_v2}
use Rattle.pass_forms.proofs.laws.computes_v2.Goals as goal

pub returns : goal.returns
returns c = computes_v2
