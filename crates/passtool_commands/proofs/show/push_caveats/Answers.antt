use Rattle.passtool_commands.proofs.show.push_caveats.Goals as goal
use Rattle.std.{proofs.Common.{◌≡◌, ◌+◌, ◌++◌, codes, rules, refl, arith}, specs.Fmt.decimal}
use Rattle.passtool_commands.proofs.CommandLemmas.{caveat_written, no_caveat_left}

pub loop-index-init : goal.loop-index-init
loop-index-init c = refl

pub loop-index-preserved : goal.loop-index-preserved
loop-index-preserved c =
    let name : c.as_str.result.now ≡ codes "caveat " ++ decimal (c.loop-index.index + 1) = search rules in
    caveat_written c.args.caveats.now c.loop-index.index c.index-caveats-index.result _ _ _ _ _ (omega arith) c.index-caveats-index.is c.deref.ensures.value
    name c.in_ok-push_line.ensures c.loop-index.invariant

pub returns : goal.returns
returns c = no_caveat_left c.args.caveats.now c.loop-index.index _ _ (omega arith) c.loop-index.invariant
