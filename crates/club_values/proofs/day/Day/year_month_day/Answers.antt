use Rattle.club_values.proofs.day.Day.year_month_day.Goals as goal
use Rattle.std.proofs.Common.{arith}
use Rattle.club_values.proofs.DayLemmas.{civil_date, date_bounds, date_of_day, year_after_cast}

pub overflow_cast-result : goal.overflow_cast-result
overflow_cast-result c =
    let day = c.date-date.ensures in
    let b = date_bounds c.args.self day.within in
    rw (year_after_cast c.args.self c.date-date.result day.within day.same) (tt, omega arith)

pub returns : goal.returns
returns c =
    let day = c.date-date.ensures in
    let b = date_bounds c.args.self day.within in
    let year = year_after_cast c.args.self c.date-date.result day.within day.same in
    let same = date_of_day c.args.self c.date-date.result day.within day.same in
    record {
      date = rw (year, same.1, same.2) (civil_date c.args.self day.within);
      years = rw year (b.0, b.1);
      within = day.within;
    }
