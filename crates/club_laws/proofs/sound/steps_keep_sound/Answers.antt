use Rattle.club_laws.proofs.SoundSteps.{sound_step}
use Rattle.club_laws.proofs.sound.steps_keep_sound.Goals as goal

pub returns : goal.returns
returns c = sound_step
