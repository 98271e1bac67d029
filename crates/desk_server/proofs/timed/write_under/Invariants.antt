-- The invariant of the loop in `write_under`.
use Rattle.desk_server.proofs.timed.write_under.Given as goal
use Rattle.desk_server.proofs.ServerLemmas.{Interrupted}

abbrev pub invariant-loop-interrupted : goal.invariant-loop-interrupted
invariant-loop-interrupted g l =
    Interrupted g.C.MonotonicClock.shows g.W.TimedStream.writes g.W.TimedStream.taken g.W.TimedStream.to_come l.limit l.initial.writer l.interrupted l.writer
