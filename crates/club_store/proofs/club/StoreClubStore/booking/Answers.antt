use Rattle.club_store.proofs.club.StoreClubStore.booking.Goals as goal
use Rattle.club_store.proofs.StoreLemmas.{reads_sound}

pub returns : goal.returns
returns g c = reads_sound (rw c.self.view_is at c.booking.ensures.reads)
