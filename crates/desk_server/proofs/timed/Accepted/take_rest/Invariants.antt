-- The invariant of the loop in `Accepted::take_rest`.
use Rattle.std.{proofs.Common.{◌≡◌, ◌-◌, ◌≤◌, ℕ, List, length}, specs.Io.KnownBytes.{Consumes, Keeps}}
use Rattle.desk_server.specs.Accepted.{HasMoved}
use Rattle.desk_server.proofs.timed.Accepted.take_rest.Given as goal

abbrev pub invariant-loop-taken : goal.invariant-loop-taken
invariant-loop-taken g l = record {
  bytes : List ℕ;
  so_many : length bytes ≡ l.taken;
  within : l.taken ≤ 65536;
  came : Consumes (g.S.TimedStream.to_come l.fn.self.stream) (g.S.TimedStream.to_come l.self.stream) bytes;
  still : Keeps (g.S.TimedStream.taken l.fn.self.stream) (g.S.TimedStream.taken l.self.stream);
  kept : HasMoved l.fn.self l.self;
}

abbrev pub decreases-loop-taken : goal.decreases-loop-taken
decreases-loop-taken g l = 65536 - l.taken
