use Rattle.club_store.proofs.club.StoreClubStore.facility.Goals as goal
use Rattle.club_store.proofs.StoreLemmas.{reads_sound}

pub returns : goal.returns
returns g c = reads_sound c.facility.ensures.reads
