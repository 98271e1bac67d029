use Rattle.club_gate.proofs.walk.has_kind.Goals as goal
use Rattle.club_gate.proofs.{Common.◌∙◌, VerifyLemmas.blind_at_last}

pub returns : goal.returns
returns g c = λ pass e short _. blind_at_last c.finds_the_fault_at.ensures c.reads_what_is_understood.ensures _
    (g.F.FieldSource.left c.loop-field.source) c.in_default.ensures.none.0 c.loop-field.invariant pass (c.again-source.ensures ∙ e)
