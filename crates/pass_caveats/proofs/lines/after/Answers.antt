use Rattle.pass_caveats.proofs.lines.after.Goals as goal
use Rattle.std.proofs.lemmas.{Bool.Decides.Decides-eqb, Slice.Eq.strip_prefix_is}

pub returns : goal.returns
returns c = strip_prefix_is Decides-eqb c.args.text.now c.args.word.now c.strip_prefix.result c.strip_prefix.ensures.cases
