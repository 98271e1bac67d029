use Rattle.std.proofs.Common.{refl}
use Rattle.clubdesk_commands.specs.Run as spec
use Rattle.clubdesk_commands.proofs.program.hand_over.Goals as goal

pub returns-in-Some-eq0-default-clause-handed : goal.returns-in-Some-eq0-default-clause-handed
returns-in-Some-eq0-default-clause-handed g c =
    spec.handed _ _ c.in-Ok.ensures (rw c.as_slice.ensures.value at c.in-Some-eq0-default.ensures) (rw c.in-Some-eq0-default.field-0-0-test refl)

pub returns-in-Some-clause-handed : goal.returns-in-Some-clause-handed
returns-in-Some-clause-handed g c =
    spec.handed _ _ c.in-Ok.ensures (rw c.as_slice.ensures.value at c.in-Some.ensures) (c.in-Some.status-test.1, refl)

pub returns-clause-handed : goal.returns-clause-handed
returns-clause-handed g c = spec.handed _ _ c.in-Ok.ensures (rw c.as_slice.ensures.value at c.in-None.ensures) refl
