-- The invariant of the loop in `Accepted::command_before`.
use Rattle.desk_server.specs.Accepted.{HasWaited}
use Rattle.desk_server.proofs.connections.AcceptedWaits.command_before.Given as goal

abbrev pub invariant-loop : goal.invariant-loop
invariant-loop g l = HasWaited g.S.TimedStream.to_come g.S.TimedStream.taken l.initial.self l.self
