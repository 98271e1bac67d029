use Rattle.pass_calls.proofs.object.PassObject.fill.Goals as goal
use Rattle.std.proofs.Common.{◌+◌, ◌≤◌, List, ℕ, ap, arith, length, refl, sym, ◌∙◌}
use Rattle.std.proofs.lemmas.List.{length-map, length-take-le, take_all}
use Rattle.std.specs.{List.sum_by, Vec.vec_items}
use Rattle.pass_calls.{proofs.HeldLemmas.{more_taken, next_caveat, part_taken, pass_of}, specs.Object.with_one_more}

pub loop-caveat-preserved : goal.loop-caveat-preserved
loop-caveat-preserved c =
    let inv = c.loop-caveat.invariant in
    let caveats = c.args.pass.now.caveats in
    let more = next_caveat _ _ _ _ _ c.caveats-caveat-items.ensures c.loop-caveat-test.true c.caveat-item.is c.as_slice.ensures.value in
    let low : c.loop-caveat.caveat-index ≤ length caveats =
    omega (arith, c.loop-caveat-test.true, ap length c.caveats-caveat-items.ensures, length-map c.caveats-caveat-items.result.now vec_items) in
    let count = ap (λ pass. length pass.caveats) inv.0 ∙ length-take-le c.loop-caveat.caveat-index caveats low in
    let room = c.push.ensures.room.0 c.if-not-push.false in
    let taken = c.push.ensures.taken c.if-not-push.false in (
      c.push.ensures.more c.if-not-push.false ∙ ap (with_one_more c.as_slice.result.now) inv.0
          ∙ ap (λ (texts : List (List ℕ)). pass_of c.args.pass.now.location c.args.pass.now.identifier texts c.args.pass.now.signature) (sym more),
      c.push.ensures.form ∙ inv.1,
      omega (arith, taken, inv.2, more_taken caveats c.loop-caveat.caveat-index c.as_slice.result.now more),
      omega (arith, taken, room.1),
      omega (arith, count, room.0),
    )

pub returns-then-not-push-clause-room : goal.returns-then-not-push-clause-room
returns-then-not-push-clause-room c =
    let inv = c.loop-caveat.invariant in
    let caveats = c.args.pass.now.caveats in
    let more = next_caveat _ _ _ _ _ c.caveats-caveat-items.ensures c.loop-caveat-test.true c.caveat-item.is c.as_slice.ensures.value in
    let low : c.loop-caveat.caveat-index + 1 ≤ length caveats =
    omega (arith, c.loop-caveat-test.true, ap length c.caveats-caveat-items.ensures, length-map c.caveats-caveat-items.result.now vec_items) in
    let count = ap (λ pass. length pass.caveats) inv.0 ∙ length-take-le c.loop-caveat.caveat-index caveats (omega (arith, low)) in (
      λ done. absurd cc,
      λ (few, fits). sym c.if-not-push.true ∙ c.push.ensures.room.1
          (omega (arith, count, low, few), omega (arith, inv.2, part_taken caveats c.loop-caveat.caveat-index c.as_slice.result.now more, fits)),
    )

pub returns-clause-room : goal.returns-clause-room
returns-clause-room c =
    let inv = c.loop-caveat.invariant in
    let caveats = c.args.pass.now.caveats in
    let all : length caveats ≤ c.loop-caveat.caveat-index =
    omega (arith, c.loop-caveat-test.false, ap length c.caveats-caveat-items.ensures, length-map c.caveats-caveat-items.result.now vec_items) in
    let whole = ap (sum_by length) (take_all c.loop-caveat.caveat-index caveats all) in
    (λ done. (omega (arith, all, inv.4), omega (arith, inv.2, inv.3, whole)), λ fits. refl)

pub returns-clause-taken : goal.returns-clause-taken
returns-clause-taken c =
    let inv = c.loop-caveat.invariant in
    let caveats = c.args.pass.now.caveats in
    let all : length caveats ≤ c.loop-caveat.caveat-index =
    omega (arith, c.loop-caveat-test.false, ap length c.caveats-caveat-items.ensures, length-map c.caveats-caveat-items.result.now vec_items) in
    omega (arith, inv.2, ap (sum_by length) (take_all c.loop-caveat.caveat-index caveats all))
