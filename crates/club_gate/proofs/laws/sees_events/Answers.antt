use Rattle.club_gate.proofs.DeskLemmas as decoding
use Rattle.club_gate.proofs.laws.sees_events.Goals as goal

pub returns : goal.returns
returns c = decoding.sees_events c.decodes.ensures
