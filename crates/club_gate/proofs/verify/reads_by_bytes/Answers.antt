use Rattle.club_gate.proofs.verify.reads_by_bytes.Goals as goal
use Rattle.club_gate.proofs.{Common.Err, VerifyLemmas.read_wrapped}

pub returns-clause-wrapped : goal.returns-clause-wrapped
returns-clause-wrapped c = λ form bytes.
    read_wrapped c.reads_v1_exactly.ensures c.reads_v2_exactly.ensures c.reads_json_exactly.ensures c.reads_any_form_exactly.ensures
    c.reads_what_is_wrapped.ensures c.args.text.now form bytes c.are_bytes.ensures

pub returns-clause-refused : goal.returns-clause-refused
returns-clause-refused c = λ fault unwrapped.
    let text = c.args.text.now in
    (c.reads_any_form_exactly.ensures text (Err fault) c.are_bytes.ensures).0 (c.refuses_what_wraps_nothing.ensures text fault unwrapped)
