use Rattle.pass_caveats.proofs.laws.tests_the_set.Goals as goal
use Rattle.pass_caveats.proofs.ChoiceLemmas.{Decides-permits}

pub returns : goal.returns
returns c = λ caveat ask. let d = Decides-permits caveat ask in (d.1, d.0)
