use Rattle.pass_forms.proofs.WholeV1.{computes_v1}
use Rattle.pass_forms.proofs.laws.computes_v1.Goals as goal

pub returns : goal.returns
returns c = computes_v1
