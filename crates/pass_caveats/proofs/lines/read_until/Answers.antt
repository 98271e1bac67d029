use Rattle.pass_caveats.proofs.lines.read_until.Goals as goal
use Rattle.std.proofs.{Common.arith, lemmas.Grind.common_steps}

pub returns : goal.returns
returns c = grind (arith, common_steps, c.is_text_of_moment.ensures c.in_ok-after.field-0.now)
