-- The result of `signed_in` for the remaining fields is the same before and after each iteration.
use Rattle.pass_forms.proofs.verify.is_signed_by.Given as goal
use Rattle.pass_forms.proofs.{Common.{◌≡◌, length}, ReadingLemmas.signed_in}

abbrev pub invariant-loop-field : goal.invariant-loop-field
invariant-loop-field g l = signed_in l.chain (g.F.FieldSource.left l.source) ≡ signed_in l.initial.chain (g.F.FieldSource.left l.initial.source)

abbrev pub decreases-loop-field : goal.decreases-loop-field
decreases-loop-field g l = length (g.F.FieldSource.left l.source)
