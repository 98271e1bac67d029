use Rattle.pass_forms.proofs.layout.Fields.open.Goals as goal
use Rattle.pass_forms.{proofs.Common.{◌∙◌, length, refl, ap, sym, arith}, specs.{FieldSource.opening_of, Reading.IsReadAs}}

pub returns-clause-computed : goal.returns-clause-computed
returns-clause-computed g c = c.checked_fields.ensures ∙ ap opening_of (sym (c.reads_exactly.ensures.computed c.args.bytes.now))

pub returns-clause-spelling : goal.returns-clause-spelling
returns-clause-spelling g c =
    let bytes = c.args.bytes.now in
    let reading = g.L.Layout.reading bytes in
    grind (arith, IsReadAs (length bytes) (g.L.Layout.Spells bytes), (c.reads_exactly.ensures.spelling bytes reading).1 refl, returns-clause-computed g c)
