-- The loop invariant of `fault_after`, which scans the fields of a pass.
use Rattle.club_gate.proofs.walk.fault_after.Given as goal
use Rattle.club_gate.proofs.{Common.{◌≡◌, length}, VerifyLemmas.fault_in}

abbrev pub invariant-loop-field : goal.invariant-loop-field
invariant-loop-field g l = fault_in l.after l.number (g.F.FieldSource.left l.source) ≡ fault_in l.after l.initial.number (g.F.FieldSource.left l.initial.source)

abbrev pub decreases-loop-field : goal.decreases-loop-field
decreases-loop-field g l = length (g.F.FieldSource.left l.source)
