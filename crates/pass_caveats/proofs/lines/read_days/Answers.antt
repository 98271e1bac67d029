use Rattle.pass_caveats.proofs.lines.read_days.Goals as goal
use Rattle.std.proofs.{Common.arith, lemmas.Bool.Decides.nat_tests}
use Rattle.pass_caveats.proofs.ChoiceLemmas.{dates_of, no_first_day, no_dots, no_second_day, spells_days, days_fall}

pub returns-then-rest-lt10 : goal.returns-then-rest-lt10
returns-then-rest-lt10 c = λ x h.
    let dates = dates_of c.args.text.now c.in_ok-rest.rest.now x.0 x.1 c.in_ok-rest.ensures h in
    absurd (omega (arith, dates.long))

pub returns-in_err-first : goal.returns-in_err-first
returns-in_err-first c =
    rw c.from_residual-in_err-first.ensures
    (no_first_day c.is_text_of_day.ensures c.args.text.now c.in_ok-rest.rest.now _ c.in_ok-rest.ensures c.split_at.ensures.front c.in_err-first.ensures.spelled)

pub returns-in_err-after : goal.returns-in_err-after
returns-in_err-after c =
    rw c.from_residual-in_err-after.ensures
    (no_dots c.args.text.now c.in_ok-rest.rest.now _ c.in_ok-rest.ensures c.split_at.ensures.back c.in_err-after.ensures)

pub returns-in_err-last : goal.returns-in_err-last
returns-in_err-last c =
    rw c.from_residual-in_err-last.ensures
    (no_second_day c.is_text_of_day.ensures c.args.text.now c.in_ok-rest.rest.now _ c.in_ok-after.field-0.now c.in_ok-rest.ensures c.split_at.ensures.back
    c.in_ok-after.ensures c.in_err-last.ensures.spelled)

pub returns-then-le : goal.returns-then-le
returns-then-le c =
    spells_days c.is_text_of_day.ensures _ _ _ _ _ _ _ c.in_ok-rest.ensures c.split_at.ensures.front c.split_at.ensures.back c.in_ok-after.ensures
    c.in_ok-first.ensures.spelled c.in_ok-last.ensures.spelled (grind (arith, nat_tests))

pub returns-else-le : goal.returns-else-le
returns-else-le c =
    days_fall c.is_text_of_day.ensures c.distinct_day_texts.ensures _ _ _ _ _ _ _ c.in_ok-rest.ensures c.split_at.ensures.front c.split_at.ensures.back
    c.in_ok-after.ensures c.in_ok-first.ensures.spelled c.in_ok-last.ensures.spelled (grind (arith, nat_tests))
