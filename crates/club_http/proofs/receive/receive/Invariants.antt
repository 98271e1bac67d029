use Rattle.club_http.proofs.receive.receive.Given as goal
use Rattle.std.{proofs.Common.{◌≡◌, ◌≤◌, take, ◌-◌}, specs.Io.KnownBytes.Consumes}
use Rattle.club_http.specs.Calls.{Gives}
use Rattle.http_request.specs.Frame.{Covers}

abbrev pub invariant-loop-reader : goal.invariant-loop-reader
invariant-loop-reader g l = record {
  within : l.len ≤ 16640;
  came : Consumes (g.R.Inlet.to_come l.initial.reader) (g.R.Inlet.to_come l.reader) (take l.len l.room);
  covers : Covers l.scan (take l.len l.room);
  gave : Gives (g.R.Inlet.fills) l.initial.reader (take l.len l.room) l.reader;
  counted : g.R.Inlet.failures l.reader ≡ g.R.Inlet.failures l.initial.reader;
}

abbrev pub decreases-loop-reader : goal.decreases-loop-reader
decreases-loop-reader g l = 16640 - l.len
