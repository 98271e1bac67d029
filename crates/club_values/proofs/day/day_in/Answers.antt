use Rattle.club_values.proofs.day.day_in.Goals as goal
use Rattle.club_values.proofs.DayLemmas.{no_day}

pub returns-in_err-date_of : goal.returns-in_err-date_of
returns-in_err-date_of c = rw c.from_residual.ensures (no_day c.args.text.now (c.in_err-date_of.ensures))
