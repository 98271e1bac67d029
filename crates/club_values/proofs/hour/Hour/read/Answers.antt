use Rattle.club_values.proofs.hour.Hour.read.Goals as goal
use Rattle.club_values.{proofs.DayLemmas.{same_reading, reads_hours}, specs.Moment.SpellsHour}

pub returns-clause-function : goal.returns-clause-function
returns-clause-function c = same_reading (SpellsHour c.args.text.now) _ c.hour_in.result (reads_hours c.args.text.now) c.hour_in.ensures
