use Rattle.club_store.proofs.club.StoreClubStore.apply.Goals as goal
use Rattle.club_store.proofs.StoreLemmas.{change_failed, sound_changes}

pub returns-clause-changed : goal.returns-clause-changed
returns-clause-changed g c = λ was_clean.
    sound_changes g.S.Store c.args.change.now c.args.self.now c.apply.new.self c.apply.result ((rw c.self.view_is at c.apply.ensures.makes).effect was_clean)

pub returns-clause-failed : goal.returns-clause-failed
returns-clause-failed g c = λ was_clean. change_failed g.S.Store _ _ _ _ (rw c.self.view_is at c.apply.ensures.makes) was_clean
