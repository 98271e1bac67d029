-- The invariant of the loop in `write_bytes`.
use Rattle.std.{proofs.Common.{◌≤◌, take, length}, specs.Io.KnownBytes.Appends}
use Rattle.command_line.proofs.output.write_bytes.Given as goal

abbrev pub invariant-writing : goal.invariant-writing
invariant-writing g l = (l.written ≤ length l.bytes) × Appends (g.W.Write.contents l.initial.writer) (g.W.Write.contents l.writer) (take l.written l.bytes)
