-- Setting the remaining fields in `pass` gives the same result before and after each iteration.
use Rattle.pass_forms.proofs.layout.Fields.into_pass.Given as goal
use Rattle.pass_forms.{proofs.Common.{◌≡◌, length}, specs.FieldSource.with_fields}

abbrev pub invariant-loop-field : goal.invariant-loop-field
invariant-loop-field g l = with_fields l.pass l.self ≡ with_fields l.initial.pass l.initial.self

abbrev pub decreases-loop-field : goal.decreases-loop-field
decreases-loop-field g l = length l.self
