use Rattle.club_values.proofs.day.Day.read.Goals as goal
use Rattle.club_values.{proofs.DayLemmas.{same_reading, reads_days}, specs.Moment.SpellsDay}

pub returns-clause-function : goal.returns-clause-function
returns-clause-function c = same_reading (SpellsDay c.args.text.now) _ c.day_in.result (reads_days c.args.text.now) c.day_in.ensures
