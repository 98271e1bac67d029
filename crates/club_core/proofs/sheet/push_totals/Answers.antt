use Rattle.club_core.proofs.sheet.push_totals.Goals as goal
use Rattle.std.{proofs.{Common.{◌++◌, ap, sym, ◌∙◌}, lemmas.{Bool.eqb-false, Result.IfOk-weaker}}, specs.String.string_bytes}
use Rattle.club_core.proofs.SheetLemmas.{laid_totals, laid_totals-totals_text}

pub returns : goal.returns
unfolding laid_totals
returns c =
    let rows = c.args.rows.now in
    let persons = c.count_persons-persons.result in
    let charge = c.sum_charges-charge.result in
    let totals =
    laid_totals-totals_text rows persons charge (eqb-false _ _ (sym c.if-is_empty.ensures)) c.count_persons-persons.ensures c.sum_charges-charge.ensures in
    IfOk-weaker c.writeln-2.result _ _
    (λ _ h. h ∙ ap (λ text. string_bytes c.args.text.now ++ text) totals)
    c.writeln-2.ensures.bytes
