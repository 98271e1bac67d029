use Rattle.club_gate.proofs.DeskLemmas as decoding
use Rattle.club_gate.proofs.laws.decodes.Goals as goal

pub returns : goal.returns
returns c = decoding.decodes c.reads_any_form_exactly.ensures c.seen_alike.ensures
