use Rattle.pass_forms.proofs.laws.one_pass_for_each_v1.Goals as goal
use Rattle.pass_forms.{proofs.{Common.SpellsV1, ReadingLemmas.one_each, WholeV1.computes_v1}, specs.computed.V1Reading.wide_at}

pub returns : goal.returns
returns c = one_each SpellsV1 wide_at computes_v1
