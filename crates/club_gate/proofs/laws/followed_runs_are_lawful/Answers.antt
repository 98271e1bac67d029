use Rattle.club_gate.proofs.FollowedRuns.{lawful, leaves_club}
use Rattle.club_gate.proofs.laws.followed_runs_are_lawful.Goals as goal

pub returns : goal.returns
returns g c = λ new club others events responses sound within followed.
    let ghosts = g.S.ClubStore.ghosts in (
      lawful ghosts new club others events responses c.leaves_out_failed.ensures followed c.solo_law.ensures c.solo_law_of_two.ensures
          c.repeats_return_the_same.ensures c.cancellations_return_the_record.ensures c.conserves_points.ensures c.keeps_sound.ensures
          c.sound_clubs_have_places.ensures within sound,
      leaves_club ghosts new club others events responses c.leaves_out_failed.ensures followed c.repeats_after_one_more.ensures,
    )
