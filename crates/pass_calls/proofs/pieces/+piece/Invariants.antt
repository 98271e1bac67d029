use Rattle.std.proofs.Common.{length}
use Rattle.pass_calls.proofs.pieces.+piece.Given as goal

abbrev pub decreases-piece : goal.decreases-piece
decreases-piece l = length l.lens.now
