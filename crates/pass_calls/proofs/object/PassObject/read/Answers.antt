-- Proof goals of `PassObject::read`.
use Rattle.std.proofs.Common.{inl}
use Rattle.pass_calls.proofs.object.PassObject.read.Goals as goal

pub returns-clause-memory : goal.returns-clause-memory
returns-clause-memory c = λ _. inl ((c.in_ok-form.form, c.in_ok-form.pass), c.in_ok-form.ensures.spelling)
