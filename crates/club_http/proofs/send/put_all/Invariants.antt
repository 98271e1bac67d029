use Rattle.std.{proofs.Common.{length, ◌-◌, ◌≡◌, take, ◌≤◌}, specs.Io.KnownBytes.Appends}
use Rattle.club_http.specs.Calls.{ArePut}
use Rattle.club_http.proofs.send.put_all.Given as goal

abbrev pub invariant-loop-sent : goal.invariant-loop-sent
invariant-loop-sent g l = record {
  within : l.sent ≤ length l.bytes;
  put : Appends (g.W.Outlet.taken l.initial.writer) (g.W.Outlet.taken l.writer) (take l.sent l.bytes);
  counted : g.W.Outlet.failures l.writer ≡ g.W.Outlet.failures l.initial.writer;
  calls : ArePut g.W.Outlet.puts l.initial.writer l.writer;
}

abbrev pub decreases-loop-sent : goal.decreases-loop-sent
decreases-loop-sent g l = length l.bytes - l.sent
