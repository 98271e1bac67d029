use Rattle.club_values.proofs.day.Day.text.Goals as goal
use Rattle.club_values.proofs.DayLemmas.{date_text-day_text}

pub returns-clause-value : goal.returns-clause-value
returns-clause-value c =
    let day = c.year_month_day-year.ensures in
    rw (c.two_digits.ensures, c.two_digits-2.ensures, c.two_digits-3.ensures, c.two_digits-4.ensures) (date_text-day_text c.args.self _ _ _ day.within day.date)
