use Rattle.std.proofs.{Common.arith, KnownBytes.{Appends-kept, Appends-trans}}
use Rattle.command_line.proofs.output.write_bytes.Goals.{in-Ok, in-Err+else-not-is_interrupted}
use lib.Seq.{take-add}
use Rattle.command_line.proofs.output.write_bytes.Goals as goal

pub writing-preserved : goal.writing-preserved
writing-preserved g c =
    let before = c.writing.invariant.1 in
    elim c.match-write_after.branch [
      | in-Ok w ↦ rw w.written-is
          (w.in-Ok.ensures.fits, rw (take-add c.writing.written w.in-Ok.count c.args.bytes.now) (Appends-trans _ _ _ _ _ before w.in-Ok.ensures.ok))
      | in-Err+else-not-is_interrupted w ↦ rw w.written-is (omega arith, Appends-kept _ _ _ _ before w.in-Err.ensures.err)
    ]
