use Rattle.club_values.proofs.laws.distinct_day_texts.Goals as goal
use Rattle.std.proofs.Common.{List, ℕ, [], ◌++◌, ap}
use Rattle.club_values.proofs.DayLemmas.{day_text_injective}

pub returns : goal.returns
returns c = λ a b h k e. day_text_injective a b [] [] h k (ap (λ (text : List ℕ). text ++ []) e)
