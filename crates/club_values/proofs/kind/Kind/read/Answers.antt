use Rattle.club_values.proofs.kind.Kind.read.Goals as goal
use Rattle.std.proofs.Common.{◌≡◌}
use Rattle.club_values.{proofs.DayLemmas.{same_reading, reads_kinds}, specs.{Kind.kind_text, declared.kind.Kind.Kind}}

pub returns-clause-function : goal.returns-clause-function
returns-clause-function c = same_reading (λ (kind : Kind). c.args.text.now ≡ kind_text kind) _ c.kind_in.result (reads_kinds c.args.text.now) c.kind_in.ensures
