-- The loop invariant of `unspent_fault`, which scans the fields of a pass.
use Rattle.club_gate.proofs.walk.unspent_fault.Given as goal
use Rattle.club_gate.proofs.{Common.{◌≡◌, ℕ, length}, VerifyLemmas.fault_in}
use Rattle.pass_caveats.specs.Spending.{IsWithin, after_spending}

abbrev pub invariant-loop-field : goal.invariant-loop-field
invariant-loop-field g l = (spent : ℕ) → IsWithin l.slack spent → fault_in (after_spending spent l.ask) l.number (g.F.FieldSource.left l.source)
    ≡ fault_in (after_spending spent l.ask) l.initial.number (g.F.FieldSource.left l.initial.source)

abbrev pub decreases-loop-field : goal.decreases-loop-field
decreases-loop-field g l = length (g.F.FieldSource.left l.source)
