use Rattle.club_gate.proofs.DeskLemmas as desk
use Rattle.club_gate.proofs.laws.names_its_rows.Goals as goal

pub returns : goal.returns
returns c = desk.names_its_rows c.reads_any_form_exactly.ensures c.finds_names.ensures c.decodes.ensures
