use Rattle.club_gate.proofs.walk.fault_after.Goals as goal
use Rattle.club_gate.proofs.{Common.arith, VerifyLemmas.{fault_at_last, fault_comes, no_fault_comes}}

pub returns-then-is_some : goal.returns-then-is_some
returns-then-is_some g c = grind (arith, fault_at_last, fault_comes)

pub returns : goal.returns
returns g c = grind (arith, fault_at_last, no_fault_comes)
