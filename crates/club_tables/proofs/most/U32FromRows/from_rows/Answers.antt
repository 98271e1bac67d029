use Rattle.club_tables.proofs.most.U32FromRows.from_rows.Goals as goal
use Rattle.club_tables.proofs.{Common.{ap, sym, subst, ◌∙◌, arith, take, take_all, All-more, All-same, IsTakenRow, most_in, whole_in}, NumberLemmas.most_more}
use Rattle.club_tables.proofs.NumberLemmas.{none_taken}

pub loop-row-preserved : goal.loop-row-preserved
loop-row-preserved c =
    let row = c.row-item.result in
    let low = c.loop-row-test.true in
    let one : IsTakenRow row = (c.in-Some.taken, c.in-Some.ensures.0, c.in-Some.ensures.1) in
    record {
      returned = grind (
        arith,
        most_more c.args.rows.now c.loop-row.row-index row low c.row-item.is,
        ap whole_in c.in-Some.ensures.1,
      );
      limits = All-more IsTakenRow c.args.rows.now c.loop-row.row-index row low c.loop-row.invariant.limits (subst IsTakenRow c.row-item.is one);
    }

pub returns-in_default : goal.returns-in_default
returns-in_default c = λ n. none_taken c.args.rows.now c.loop-row.row-index c.row-item.result c.loop-row-test.true c.row-item.is n c.in_default.ensures

pub returns : goal.returns
returns c = (
  All-same IsTakenRow _ (take c.loop-row.row-index c.args.rows.now) (sym (take_all _ _ c.loop-row-test.false)) c.loop-row.invariant.limits,
  c.loop-row.invariant.returned ∙ ap most_in (take_all _ _ c.loop-row-test.false),
)
