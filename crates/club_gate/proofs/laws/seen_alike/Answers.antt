use Rattle.club_gate.proofs.DeskLemmas as decoding
use Rattle.club_gate.proofs.laws.seen_alike.Goals as goal

pub returns : goal.returns
returns c = decoding.seen_alike c.finds_names.ensures c.reads_what_is_understood.ensures c.decides_signed.ensures
