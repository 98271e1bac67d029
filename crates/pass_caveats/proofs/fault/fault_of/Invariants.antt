use Rattle.pass_caveats.proofs.fault.fault_of.Given as goal
use Rattle.std.{proofs.Common.{map, take}, specs.Vec.vec_items}
use Rattle.pass_caveats.specs.Fault.{Allowed}

-- All caveats before the current index allow the request.
abbrev pub invariant-loop-index : goal.invariant-loop-index
invariant-loop-index l = Allowed (take l.index (map vec_items l.caveats)) l.ask
