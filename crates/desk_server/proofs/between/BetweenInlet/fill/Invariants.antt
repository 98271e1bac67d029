-- The invariant of the loop in `BetweenInlet::fill`.
use Rattle.std.{proofs.Common.◌≡◌, specs.Io.KnownBytes.Keeps}
use Rattle.desk_server.specs.Between.{AreWaits, CommandsAlone}
use Rattle.desk_server.proofs.between.BetweenInlet.fill.Given as goal

abbrev pub invariant-loop-commanded : goal.invariant-loop-commanded
invariant-loop-commanded g l = record {
  waited : AreWaits g.R.Waits.waits l.initial.self.reader.now l.self.reader.now;
  reads_nothing : Keeps (g.R.Inlet.to_come l.initial.self.reader.now) (g.R.Inlet.to_come l.self.reader.now);
  counted : g.R.Inlet.failures l.self.reader.now ≡ g.R.Inlet.failures l.initial.self.reader.now;
  alone : CommandsAlone g.M.Moments.gives g.D.Office.commands g.G.Log.begins g.G.Log.notes l.initial.self l.self;
}
