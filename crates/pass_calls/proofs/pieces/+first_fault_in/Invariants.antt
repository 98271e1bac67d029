use Rattle.std.proofs.Common.{length}
use Rattle.pass_calls.proofs.pieces.+first_fault_in.Given as goal

abbrev pub decreases-first_fault_in : goal.decreases-first_fault_in
decreases-first_fault_in l = length l.lens.now
