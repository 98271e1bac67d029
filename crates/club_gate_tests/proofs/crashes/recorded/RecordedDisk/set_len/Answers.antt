use Rattle.std.proofs.Common.{◌≡◌, rules}
use Rattle.club_gate_tests.proofs.Unchanged.{cut_nothing}
use Rattle.club_gate_tests.proofs.crashes.recorded.RecordedDisk.set_len.Goals as goal

pub returns-in_err-count-clause-crash : goal.returns-in_err-count-clause-crash
returns-in_err-count-clause-crash c left may =
    let kept : c.note.new.changes.items ≡ c.args.self.now.changes.items = search rules in
    (left, rw kept at may, cut_nothing _ _)
