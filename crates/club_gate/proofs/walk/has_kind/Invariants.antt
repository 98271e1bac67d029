-- The loop invariant of `has_kind`, which scans the fields of a pass.
use Rattle.club_gate.proofs.walk.has_kind.Given as goal
use Rattle.club_gate.proofs.{Common.length, VerifyLemmas.AreBlind}

abbrev pub invariant-loop-field : goal.invariant-loop-field
invariant-loop-field g l = AreBlind (g.F.FieldSource.left l.source) → AreBlind (g.F.FieldSource.left l.initial.source)

abbrev pub decreases-loop-field : goal.decreases-loop-field
decreases-loop-field g l = length (g.F.FieldSource.left l.source)
