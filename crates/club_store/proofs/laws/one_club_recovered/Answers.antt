use Rattle.club_store.proofs.laws.one_club_recovered.Goals as goal
use Rattle.std.proofs.Math.Logic.{∥∥₁_map}
use Rattle.club_store.proofs.StoreLemmas.{files_hold}

pub returns : goal.returns
returns g c clubs left crash opened = ∥∥₁_map (files_hold c.args.before.now clubs left crash) (opened.again clubs)
