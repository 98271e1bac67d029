use Rattle.club_values.proofs.action.Action.read.Goals as goal
use Rattle.std.proofs.Common.{◌≡◌}
use Rattle.club_values.{proofs.DayLemmas.{same_reading, reads_actions}, specs.{Kind.action_text, declared.action.Action.Action}}

pub returns-clause-function : goal.returns-clause-function
returns-clause-function c =
    same_reading (λ (action : Action). c.args.text.now ≡ action_text action) _ c.action_in.result (reads_actions c.args.text.now) c.action_in.ensures
