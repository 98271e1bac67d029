use Rattle.pass_forms.proofs.layout.read.Goals as goal
use Rattle.pass_forms.proofs.{Common.{Ok, ap, ◌∙◌, sym, Plain, arith}, ReadingLemmas.last_fields}

pub returns-clause-computed : goal.returns-clause-computed
returns-clause-computed g c =
    (grind (arith, last_fields, g.L.Layout.reading c.args.bytes.now)) ∙ ap (λ (pass : Plain). Ok pass) (sym c.in_ok-into_pass.ensures)

pub returns-clause-spelling : goal.returns-clause-spelling
returns-clause-spelling g c = (c.reads_exactly.ensures.spelling c.args.bytes.now _).1 (returns-clause-computed g c)
