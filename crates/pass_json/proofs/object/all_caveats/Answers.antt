use Rattle.pass_json.proofs.object.all_caveats.Goals as goal
use Rattle.std.proofs.{Common.arith, lemmas.List.map_push}
use Rattle.pass_json.proofs.ObjectLemmas.{one_more, all_read, one_refused}

pub returns-in_err-found-clause-err : goal.returns-in_err-found-clause-err
returns-in_err-found-clause-err c = grind (arith, one_refused)

pub loop-value-preserved : goal.loop-value-preserved
loop-value-preserved c = rw (c.in_ok-push.ensures.items, map_push)
    (one_more _ _ _ c.args.list.now c.loop-value.value-index c.value-item.result _ _ (omega arith) c.value-item.is c.in_ok-found.ensures.ok
    c.loop-value.invariant)

pub returns-clause-ok : goal.returns-clause-ok
returns-clause-ok c = all_read _ _ _ c.args.list.now c.loop-value.value-index (omega arith) c.loop-value.invariant
