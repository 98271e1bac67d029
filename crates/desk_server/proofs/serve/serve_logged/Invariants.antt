-- The invariant of the loop in `serve_logged`.
use Rattle.desk_server.proofs.serve.serve_logged.Given as goal
use Rattle.std.proofs.Common.{◌+◌, ◌-◌, ◌≤◌}
use Rattle.desk_server.{proofs.ServerLemmas.SoFar, specs.Served.HasTalked}

abbrev pub invariant-loop-served : goal.invariant-loop-served
invariant-loop-served g l = record {
  fewer : l.served ≤ l.count;
  so_far : SoFar g.M.Moments.gives g.D.Responder.answers g.D.Office.commands (HasTalked g.L.Client.Connection.talks) g.L.Arrivals.waited g.L.Arrivals.failures
      g.G.Log.begins g.G.Log.notes l.served l.commanded l.initial.arrivals l.arrivals
      l.initial.moments l.initial.desk l.initial.log l.moments l.desk l.log;
}

abbrev pub decreases-loop-served : goal.decreases-loop-served
decreases-loop-served g l = (l.count - l.served) + (18446744073709551615 - l.commanded)
