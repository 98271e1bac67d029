use Rattle.pass_forms.proofs.layout.skip_caveats.Goals as goal
use Rattle.pass_forms.proofs.{Common.{◌≡◌, ◌+◌, ◌-◌, suc, length, arith, common_steps}, ReadingLemmas.{no_more, one_more}}

pub loop-preserved : goal.loop-preserved
loop-preserved g c =
    let fuel : length c.args.bytes.now - c.loop.counter ≡ suc (length c.args.bytes.now - (c.loop.counter + 1)) = omega arith in
    grind (arith, common_steps, one_more g.L.Layout.caveat_at _ _ c.loop.skipped.rest.now fuel)

pub returns : goal.returns
returns g c =
    let ended : length c.args.bytes.now - c.loop.counter ≡ 0 = omega arith in
    grind (arith, common_steps, rw ended at c.loop.invariant, no_more g.L.Layout.caveat_at c.loop.skipped.rest.now)
