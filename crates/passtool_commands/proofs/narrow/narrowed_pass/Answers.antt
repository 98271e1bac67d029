use Rattle.passtool_commands.proofs.narrow.narrowed_pass.Goals as goal
use Rattle.std.proofs.{Common.{◌∙◌, Err, length, ap, refl, arith}, lemmas.Result.err_from_is_err_and}
use Rattle.passtool_commands.proofs.CommandLemmas.{all_added, counted_on, grown, one_added, one_refused}

pub loop-caveat-init : goal.loop-caveat-init
loop-caveat-init c = record { left = refl; counted = omega arith; few = c.requires }

pub returns-in_err-narrow : goal.returns-in_err-narrow
returns-in_err-narrow c =
    let p = err_from_is_err_and c.from_residual.result c.from_residual.ensures.1 in
    let narrow = c.in_err-narrow.ensures in
    rw (p.1, p.2) (one_refused c.args.caveats.now c.loop-caveat.caveat-index c.args.pass c.loop-caveat.pass c.loop-caveat.invariant.counted
    _ narrow.fault (λ e. narrow.too_many.0 (ap Err e)) (omega arith))

pub loop-caveat-preserved : goal.loop-caveat-preserved
loop-caveat-preserved c =
    let narrow = c.in_ok-narrow.ensures in
    let buffer = counted_on c.narrow.result (length c.loop-caveat.pass.caveats) (rw c.in_ok-narrow.was refl) c.narrow.ensures.too_many.1 in
    let more = grown c.as_bytes.result.now c.loop-caveat.pass c.narrow.new.pass narrow.ok in
    record {
      left = one_added c.args.caveats.now c.loop-caveat.caveat-index _ _ c.loop-caveat.pass c.narrow.new.pass (omega arith) c.as_bytes.ensures.value narrow.ok
          ∙ c.loop-caveat.invariant.left;
      counted = omega arith;
      few = omega arith;
    }

pub returns : goal.returns
returns c =
    all_added c.args.caveats.now c.loop-caveat.caveat-index c.args.pass c.loop-caveat.pass c.loop-caveat.invariant.counted c.loop-caveat.invariant.few
    (omega arith) (omega arith) c.loop-caveat.invariant.left
