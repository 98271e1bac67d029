use Rattle.club_core.proofs.sheet.push_row.Goals as goal
use Rattle.std.{proofs.{Common.{◌+◌, ◌++◌, ap, refl, ◌∙◌, lit<, append_assoc}, lemmas.Result.IfOk-weaker}, specs.String.string_bytes}
use Rattle.club_core.proofs.SheetLemmas.{laid_text, left-of, right-of}

pub returns : goal.returns
unfolding laid_text
returns c =
    let row = c.args.row.now in
    let facility =
    left-of c.laid_out.result c.as_str-facility.result.now row.slot.facility c.laid_out.ensures c.as_str-facility.ensures.value
    c.as_str-facility.ensures.name in
    let key = left-of c.laid_out-2.result c.as_str-key.result.now row.key c.laid_out-2.ensures c.as_str-key.ensures.value c.as_str-key.ensures.name in
    let number = right-of 9 c.laid_out-3.result c.get-number.result row.number c.laid_out-3.ensures c.get-number.ensures.value (lit< tt) in
    let persons = right-of 2 c.laid_out-4.result c.persons-persons.result (row.guests + 1) c.laid_out-4.ensures c.persons-persons.ensures.value (lit< tt) in
    let charge = right-of 6 c.laid_out-5.result row.charge row.charge c.laid_out-5.ensures refl (lit< tt) in
    IfOk-weaker c.writeln.result _ _
    (λ _ h. h ∙ ap (λ text. string_bytes c.args.text.now ++ text) (rw (facility, key, number, persons, charge) (simp append_assoc)))
    c.writeln.ensures.bytes
