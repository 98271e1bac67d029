-- The invariant of the loop in `read_command`.
use Rattle.std.{proofs.Common.{◌-◌, ◌≤◌, length, take}, specs.Io.KnownBytes.Consumes}
use Rattle.desk_server.proofs.door.read_command.Given as goal

abbrev pub invariant-loop-len : goal.invariant-loop-len
invariant-loop-len g l = record {
  within : l.len ≤ length l.room;
  came : Consumes (g.R.Inlet.to_come l.initial.reader) (g.R.Inlet.to_come l.reader) (take l.len l.room);
}

abbrev pub decreases-loop-len : goal.decreases-loop-len
decreases-loop-len g l = length l.room - l.len
