use Rattle.std.proofs.Common.{length}
use Rattle.pass_calls.proofs.pieces.+total.Given as goal

abbrev pub decreases-total : goal.decreases-total
decreases-total l = length l.lens.now
