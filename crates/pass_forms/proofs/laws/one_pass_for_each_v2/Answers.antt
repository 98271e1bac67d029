use Rattle.pass_forms.proofs.laws.one_pass_for_each_v2.Goals as goal
use Rattle.pass_forms.{proofs.{Common.SpellsV2, ReadingLemmas.one_each, WholeV2.computes_v2}, specs.computed.V2Reading.wide_at}

pub returns : goal.returns
returns c = one_each SpellsV2 wide_at computes_v2
