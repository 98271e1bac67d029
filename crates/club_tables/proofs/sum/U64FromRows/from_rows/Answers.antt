use Rattle.club_tables.proofs.sum.U64FromRows.from_rows.Goals as goal
use Rattle.club_tables.proofs.Common.{rules, ap, sym, subst, ◌∙◌, arith, take, sum_by, take_all, All-more, All-same, sum_by_more, cost_in, IsCostIn, IsCostRow}
use Rattle.club_tables.proofs.NumberLemmas.{cost_in_is, no_costs}

pub loop-row-preserved : goal.loop-row-preserved
loop-row-preserved c =
    let row = c.row-item.result in
    let low = c.loop-row-test.true in
    let cost : IsCostIn row c.in-Some.cost = c.in-Some.ensures in
    let one : IsCostRow row = (c.in-Some.cost, cost) in
    record {
      returned = grind (
        arith,
        sum_by_more cost_in c.args.rows.now c.loop-row.row-index row low,
        ap cost_in c.row-item.is,
        cost_in_is row c.in-Some.cost cost,
      );
      fits = search (rules, arith);
      limits = All-more IsCostRow c.args.rows.now c.loop-row.row-index row low c.loop-row.invariant.limits (subst IsCostRow c.row-item.is one);
    }

pub returns-in_default : goal.returns-in_default
returns-in_default c = λ n. no_costs c.args.rows.now c.loop-row.row-index c.row-item.result c.loop-row-test.true c.row-item.is n c.in_default.ensures

pub returns : goal.returns
returns c = (
  All-same IsCostRow _ (take c.loop-row.row-index c.args.rows.now) (sym (take_all _ _ c.loop-row-test.false)) c.loop-row.invariant.limits,
  c.loop-row.invariant.returned ∙ ap (sum_by cost_in) (take_all _ _ c.loop-row-test.false),
  c.loop-row.invariant.fits,
)
