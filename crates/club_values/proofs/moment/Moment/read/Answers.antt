use Rattle.club_values.proofs.moment.Moment.read.Goals as goal
use Rattle.club_values.{proofs.DayLemmas.{same_reading, reads_moments}, specs.Moment.SpellsMoment}

pub returns-clause-function : goal.returns-clause-function
returns-clause-function c = same_reading (SpellsMoment c.args.text.now) _ c.moment_in.result (reads_moments c.args.text.now) c.moment_in.ensures
