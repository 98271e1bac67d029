use Rattle.club_values.proofs.day.parts_of.Goals as goal
use Rattle.std.proofs.Common.{arith}
use Rattle.club_values.proofs.DayLemmas.{parts_from_reads}

pub returns : goal.returns
returns c =
    let century = c.in_ok-century.ensures in
    let year = c.in_ok-year.ensures in
    let month = c.in_ok-month.ensures in
    let day = c.in_ok-day.ensures in
    parts_from_reads c.args.text.now c.in_ok-century.century c.in_ok-year.year _ _ _ (omega arith) (omega arith) (omega arith) century.0 year.0 month.0 day.0
    (omega arith) century.1 year.1 month.1 day.1
