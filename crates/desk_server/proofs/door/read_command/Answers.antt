use Rattle.desk_server.proofs.door.read_command.Goals as goal
use Rattle.std.proofs.{Common.{◌≤◌, ◌-◌, length, arith}, KnownBytes.Consumes-trans, lemmas.Grind.common_steps}
use Rattle.desk_server.proofs.ServerLemmas.{filled}

pub loop-len-preserved : goal.loop-len-preserved
loop-len-preserved g c =
    let inv = c.loop-len.invariant in
    let len = c.loop-len.len in
    let room = c.loop-len.room in
    let within : len ≤ length room = grind (arith, common_steps) in
    let all = filled room c.fill.new.room len c.in-Some.came (length room - len) within c.in-Some.ensures.within in
    rw all (record { within = grind (arith, common_steps); came = Consumes-trans _ _ _ _ _ inv.came c.in-Some.ensures.bytes.0 })
