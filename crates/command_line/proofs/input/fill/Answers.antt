use Rattle.std.{proofs.{Common.{arith, subst, sym}, KnownBytes.{Consumes-kept, Consumes-trans}}, specs.Io.KnownBytes.Consumes}
use Rattle.command_line.proofs.input.fill.Goals.{in-Ok, in-Err+else-not-is_interrupted}
use lib.Seq.{take-add}
use Rattle.command_line.proofs.input.fill.Goals as goal

pub filling-preserved : goal.filling-preserved
filling-preserved g c =
    let buffer = c.read_after.new.buffer in
    let front = c.read_after.ensures.front in
    let before = c.filling.invariant.1 in
    elim c.match-read_after.branch [
      | in-Ok w ↦ rw w.filled-is
          (w.in-Ok.ensures.fits, rw (take-add c.filling.filled w.in-Ok.count buffer, front) (Consumes-trans _ _ _ _ _ before w.in-Ok.ensures.bytes))
      | in-Err+else-not-is_interrupted w ↦ rw w.filled-is (omega arith, subst (Consumes _ _) (sym front) (Consumes-kept _ _ _ _ before w.in-Err.ensures.err))
    ]
