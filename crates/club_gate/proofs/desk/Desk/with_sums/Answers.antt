use Rattle.club_gate.proofs.{Common.{arith}}
use Rattle.club_gate.proofs.desk.Desk.with_sums.Goals as goal

pub returns : goal.returns
returns g c = grind arith
