use Rattle.club_core.proofs.laws.one_sheet_a_day.Goals as goal
use Rattle.std.proofs.Common.{sym, ap, refl, ◌∙◌}
use Rattle.club_core.{proofs.SheetLemmas.{day_rows, one_list}, specs.Sheet.sheet_text}

pub returns-clause-one : goal.returns-clause-one
returns-clause-one c = λ club day text other a b. a.spelling ∙ ap (sheet_text day) (one_list club day a.rows b.rows a.are b.are) ∙ sym b.spelling

pub returns-clause-some : goal.returns-clause-some
returns-clause-some c = λ club sound day.
    let made = day_rows club sound day in
    (sheet_text day made.0, record { rows = made.0; are = made.1; spelling = refl })
