use Rattle.club_laws.proofs.SoundSteps.{sound_run}
use Rattle.club_laws.proofs.sound.runs_keep_sound.Goals as goal

pub returns : goal.returns
returns c = sound_run
