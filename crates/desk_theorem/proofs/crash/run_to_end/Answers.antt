use Rattle.std.proofs.Common.{subst, sym}
use Rattle.club_gate.specs.Runs.{club_left, responses_of}
use Rattle.desk_theorem.proofs.crash.run_to_end.Goals as goal

pub returns-in-Ok-clause-answered : goal.returns-in-Ok-clause-answered
returns-in-Ok-clause-answered g c = λ clean club others represents seen are.
    let was_clean = subst g.T.ClubStore.ghosts.is_clean c.into_store.ensures (c.into_storage.ensures.was_clean clean) in
    (c.in-Ok.ensures.lawful was_clean club others represents seen are).run

pub returns-in-Ok-clause-leaves : goal.returns-in-Ok-clause-leaves
returns-in-Ok-clause-leaves g c = λ clean club others represents seen are.
    let last = club_left club seen (responses_of c.in-Ok.replies.items) in
    let was_clean = subst g.T.ClubStore.ghosts.is_clean c.into_store.ensures (c.into_storage.ensures.was_clean clean) in
    let ran = c.in-Ok.ensures.represents was_clean club others represents seen are in
    let kept = subst (λ store. g.T.ClubStore.ghosts.represents store last ran.left) (sym c.into_store.ensures) ran.represents in
    record {
      left = ran.left;
      represents = c.into_storage.ensures.left clean last ran.left kept;
      each = ran.each;
      again = ran.again;
    }
