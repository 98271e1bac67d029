-- The invariant of the loop in `read_under`.
use Rattle.desk_server.proofs.timed.read_under.Given as goal
use Rattle.desk_server.proofs.ServerLemmas.{Interrupted}

abbrev pub invariant-loop-interrupted : goal.invariant-loop-interrupted
invariant-loop-interrupted g l =
    Interrupted g.C.MonotonicClock.shows g.R.TimedStream.reads g.R.TimedStream.to_come g.R.TimedStream.taken l.limit l.initial.reader l.interrupted l.reader
