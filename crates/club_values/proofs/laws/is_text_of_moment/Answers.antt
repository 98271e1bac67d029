use Rattle.club_values.proofs.laws.is_text_of_moment.Goals as goal
use Rattle.std.proofs.Common.{List, ℕ, subst, sym}
use Rattle.club_values.{proofs.DayLemmas.{spells-moment_text, moment_text-spells}, specs.Moment.SpellsMoment}

pub returns : goal.returns
returns c = λ text n.
    let P : List ℕ → Type 0 = λ t. SpellsMoment t n in
    ((λ s. let is = spells-moment_text text n s in (is.1, is.0)), (λ h. subst P (sym h.1) (moment_text-spells n h.0)))
