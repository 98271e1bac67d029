use Rattle.pass_caveats.proofs.laws.reads_what_is_understood.Goals as goal
use Rattle.pass_caveats.proofs.ChoiceLemmas as lemmas

pub returns : goal.returns
returns c =
    lemmas.reads_what_is_understood c.reads_names.ensures c.reads_days.ensures c.is_text_of_day.ensures c.reads_moments.ensures c.is_text_of_moment.ensures
