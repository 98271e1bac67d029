use Rattle.std.proofs.Common.{length}
use Rattle.pass_calls.proofs.pieces.+copy_pieces.Given as goal

abbrev pub decreases-copy_pieces : goal.decreases-copy_pieces
decreases-copy_pieces l = length l.lens.now
