use Rattle.pass_forms.proofs.write.sections.SectionsPutLayout.put_pass.Goals as goal
use Rattle.pass_forms.{proofs.Common.{arith, common_steps}, specs.Writing.v2_bytes}

pub returns-clause-bytes : goal.returns-clause-bytes
unfolding v2_bytes
returns-clause-bytes c = grind (arith, common_steps)
