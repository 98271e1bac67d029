use Rattle.club_core.proofs.laws.own_bookings_suffice.Goals as goal
use Rattle.club_core.proofs.ReplyLemmas.{own_bookings}

pub returns : goal.returns
returns c = own_bookings
