use Rattle.club_gate.proofs.desk.Desk.verdict_on.Goals as goal
use Rattle.club_gate.proofs.Common.{◌∙◌, Ok, ap, Form, reading_in_form, arith}

pub returns-in-Ok-clause-returned : goal.returns-in-Ok-clause-returned
returns-in-Ok-clause-returned g c = λ was_clean club others represents.
    let read = c.in-Ok.ensures.spelling in
    let found = ap (λ (f : Form). reading_in_form f c.args.bytes.now) c.in-V1.is ∙ (c.reads_v1_exactly.ensures c.args.bytes.now (Ok read.0)).0 read.1 in
    grind (arith, c.verdict_of.ensures.returned was_clean club others represents)

pub returns-in-Ok-open-clause-returned : goal.returns-in-Ok-open-clause-returned
returns-in-Ok-open-clause-returned g c = λ was_clean club others represents.
    let read = c.in-Ok-open.ensures.spelling in
    let found = ap (λ (f : Form). reading_in_form f c.args.bytes.now) c.in-V2.is ∙ (c.reads_v2_exactly.ensures c.args.bytes.now (Ok read.0)).0 read.1 in
    grind (arith, c.verdict_of-in-Ok-open.ensures.returned was_clean club others represents)
