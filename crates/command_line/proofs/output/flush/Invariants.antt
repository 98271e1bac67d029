use Rattle.std.specs.Io.KnownBytes.{Keeps}
use Rattle.command_line.proofs.output.flush.Given as goal

abbrev pub invariant-flushing : goal.invariant-flushing
invariant-flushing g l = Keeps (g.W.Write.contents l.initial.writer) (g.W.Write.contents l.writer)
