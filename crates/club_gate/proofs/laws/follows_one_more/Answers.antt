use Rattle.club_gate.proofs.FollowedRuns.{followed_more, followed_none}
use Rattle.club_gate.proofs.laws.follows_one_more.Goals as goal

pub returns-clause-none : goal.returns-clause-none
returns-clause-none g c = followed_none g.S.ClubStore.ghosts

pub returns-clause-more : goal.returns-clause-more
returns-clause-more g c = followed_more g.S.ClubStore.ghosts
