use Rattle.std.proofs.{Common.rules, lemmas.Fn.filter_same}
use Rattle.club_reference.proofs.edits.open.Goals as goal

pub returns : goal.returns
returns c = filter_same _ _ _ (λ x b f' k. search rules) _ _ c.retain.ensures.filtered
