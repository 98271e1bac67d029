use Rattle.std.{proofs.Common.{◌≤◌, take, length}, specs.Io.KnownBytes.Consumes}
use Rattle.command_line.proofs.input.fill.Given as goal

abbrev pub invariant-filling : goal.invariant-filling
invariant-filling g l = (l.filled ≤ length l.buffer) × Consumes (g.R.Read.remaining l.initial.reader) (g.R.Read.remaining l.reader) (take l.filled l.buffer)
