use Rattle.club_store.proofs.laws.files_hold_one_of.Goals as goal
use Rattle.club_store.proofs.StoreLemmas.{files_hold}

pub returns : goal.returns
returns g c = files_hold c.args.store.now
