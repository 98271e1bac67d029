use Rattle.club_values.proofs.moment.moment_in.Goals as goal
use Rattle.club_values.proofs.DayLemmas.{no_day_no_moment, no_time_no_moment}

pub returns-in_err-day : goal.returns-in_err-day
returns-in_err-day c = rw c.from_residual.ensures (no_day_no_moment c.args.text.now (rw c.split_at.ensures.front at c.in_err-day.ensures.spelled))

pub returns-in_err-minute : goal.returns-in_err-minute
returns-in_err-minute c = rw c.from_residual-in_err-minute.ensures (no_time_no_moment c.args.text.now (rw c.split_at.ensures.back at c.in_err-minute.ensures))
