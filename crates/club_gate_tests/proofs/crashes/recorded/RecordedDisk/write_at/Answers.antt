use Rattle.std.proofs.Common.{◌≡◌, rules}
use Rattle.club_gate_tests.proofs.Unchanged.{mixed_nothing, torn_nothing}
use Rattle.club_gate_tests.proofs.crashes.recorded.RecordedDisk.write_at.Goals as goal

pub returns-in_err-count-clause-mixed : goal.returns-in_err-count-clause-mixed
returns-in_err-count-clause-mixed c mixes fits left may =
    let kept : c.note.new.changes.items ≡ c.args.self.now.changes.items = search rules in
    (left, rw kept at may, mixed_nothing _ _ _)

pub returns-in_err-count-clause-crash : goal.returns-in_err-count-clause-crash
returns-in_err-count-clause-crash c left may =
    let kept : c.note.new.changes.items ≡ c.args.self.now.changes.items = search rules in
    (left, rw kept at may, torn_nothing _ _ _)
