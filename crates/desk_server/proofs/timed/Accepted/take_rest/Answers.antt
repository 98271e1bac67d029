use Rattle.desk_server.proofs.timed.Accepted.take_rest.Goals as goal
use Rattle.std.proofs.{Common.{◌≡◌, ◌≤◌, ◌-◌, ◌++◌, length, take, arith, length-append, refl}, KnownBytes.{Consumes-trans, Keeps-trans}}
use Rattle.std.proofs.lemmas.Grind.{common_steps}
use Rattle.desk_server.proofs.ServerLemmas.{moved_more}

pub loop-taken-preserved : goal.loop-taken-preserved
loop-taken-preserved g c =
    let inv = c.loop-taken.invariant in
    let came = take c.in-Some.came c.read_under.new.room in
    let many : length came ≡ c.in-Some.came = grind (arith, common_steps) in
    let fits : c.in-Some.came ≤ 65536 - c.loop-taken.taken = grind (arith, common_steps) in
    record {
      bytes = inv.bytes ++ came;
      so_many = omega (arith, length-append inv.bytes came, inv.so_many, many);
      within = grind (arith, common_steps);
      came = Consumes-trans _ _ _ inv.bytes came inv.came c.in-Some.ensures.bytes.0;
      still = Keeps-trans _ _ _ inv.still c.in-Some.ensures.still;
      kept = moved_more c.args.self.now c.loop-taken.self (record c.loop-taken.self { stream = c.read_under.new.reader }) inv.kept refl;
    }
