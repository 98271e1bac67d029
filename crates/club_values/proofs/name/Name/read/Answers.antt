use Rattle.club_values.proofs.name.Name.read.Goals as goal
use Rattle.std.proofs.Common.{◌≡◌, ℕ, List}
use Rattle.club_values.{proofs.DayLemmas.{same_reading, reads_names}, specs.Name.IsName}

pub returns-clause-function : goal.returns-clause-function
returns-clause-function c =
    same_reading (λ (name : List ℕ). IsName c.args.text.now × (name ≡ c.args.text.now)) _ c.name_in.result (reads_names c.args.text.now) c.name_in.ensures
