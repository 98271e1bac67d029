use Rattle.club_values.proofs.laws.is_text_of_day.Goals as goal
use Rattle.std.proofs.Common.{List, ℕ, subst, sym}
use Rattle.club_values.{proofs.DayLemmas.{spells-day_text, day_text-spells}, specs.Moment.SpellsDay}

pub returns : goal.returns
returns c = λ text n.
    let P : List ℕ → Type 0 = λ t. SpellsDay t n in
    ((λ s. (s.within, spells-day_text text n s)), (λ h. subst P (sym h.1) (day_text-spells n h.0)))
