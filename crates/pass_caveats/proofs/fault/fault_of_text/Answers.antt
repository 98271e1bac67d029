use Rattle.pass_caveats.proofs.fault.fault_of_text.Goals as goal
use Rattle.std.proofs.Common.{refl}

pub returns-in_default : goal.returns-in_default
returns-in_default c = (refl, c.in_default.ensures.understood)

pub returns-then-allows : goal.returns-then-allows
returns-then-allows c = (c.in-Some.caveat, c.in-Some.ensures.understood, c.allows.ensures.set.0 c.if-allows.true)

pub returns-else-allows : goal.returns-else-allows
returns-else-allows c =
    (refl, (c.in-Some.caveat, c.in-Some.ensures.understood, λ permits. let allowed = c.allows.ensures.set.1 permits in let not = c.if-allows.false in cc))
