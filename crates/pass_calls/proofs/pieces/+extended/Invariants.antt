use Rattle.std.proofs.Common.{length}
use Rattle.pass_calls.proofs.pieces.+extended.Given as goal

abbrev pub decreases-extended : goal.decreases-extended
decreases-extended l = length l.lens.now
