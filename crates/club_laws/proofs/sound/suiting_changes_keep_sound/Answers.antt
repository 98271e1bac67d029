use Rattle.club_laws.proofs.SoundSteps.{sound_after}
use Rattle.club_laws.proofs.sound.suiting_changes_keep_sound.Goals as goal

pub returns : goal.returns
returns c = sound_after
