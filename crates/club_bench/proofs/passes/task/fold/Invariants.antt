use Rattle.std.proofs.Common.{length}
use Rattle.club_bench.proofs.passes.task.fold.Given as goal

abbrev pub decreases-loop-field : goal.decreases-loop-field
decreases-loop-field g l = length (g.S.FieldSource.left l.fields)
