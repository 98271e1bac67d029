use Rattle.std.proofs.{Common.rules, KnownBytes.{Keeps-refl, Keeps-trans}}
use Rattle.desk_server.specs.Limits as spec
use Rattle.desk_server.proofs.timed.read_under.Goals as goal

pub loop-interrupted-init : goal.loop-interrupted-init
loop-interrupted-init g c = record { repeated = spec.not_called; kept = Keeps-refl _; still = Keeps-refl _ }

pub loop-interrupted-preserved : goal.loop-interrupted-preserved
loop-interrupted-preserved g c =
    let limited = rw c.left.ensures.2 at c.in-Interrupted.ensures.limited in
    search (rules, spec.once_more, Keeps-trans)
