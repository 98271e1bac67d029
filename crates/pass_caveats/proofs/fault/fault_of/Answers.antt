use Rattle.pass_caveats.proofs.fault.fault_of.Goals as goal
use Rattle.std.{proofs.{Common.{map, arith}, lemmas.List.{length-map, take_all}}, specs.Vec.vec_items}
use Rattle.pass_caveats.proofs.CaveatLemmas.{text_at, first_fault_at, one_more}

pub returns-in-Some : goal.returns-in-Some
returns-in-Some c =
    let texts = map vec_items c.args.caveats.now in
    let here = text_at c.args.caveats.now c.loop-index.index _ _ (omega arith) c.index-caveats-index.is c.deref.ensures.value in
    first_fault_at texts c.args.ask.now c.loop-index.index _ _
    (omega (arith, length-map c.args.caveats.now vec_items)) here c.loop-index.invariant c.in-Some.ensures.cases

pub loop-index-preserved : goal.loop-index-preserved
loop-index-preserved c =
    let texts = map vec_items c.args.caveats.now in
    let here = text_at c.args.caveats.now c.loop-index.index _ _ (omega arith) c.index-caveats-index.is c.deref.ensures.value in
    one_more texts c.args.ask.now c.loop-index.index _
    (omega (arith, length-map c.args.caveats.now vec_items)) here c.loop-index.invariant c.in_default.ensures.cases

pub returns : goal.returns
returns c =
    rw (take_all c.loop-index.index (map vec_items c.args.caveats.now) (omega (arith, length-map c.args.caveats.now vec_items))) at c.loop-index.invariant
