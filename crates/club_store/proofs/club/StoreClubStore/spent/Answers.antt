use Rattle.club_store.proofs.club.StoreClubStore.spent.Goals as goal
use Rattle.club_store.proofs.StoreLemmas.{reads_sound}

pub returns : goal.returns
returns g c = reads_sound (rw c.self.view_is at c.spent.ensures.reads)
