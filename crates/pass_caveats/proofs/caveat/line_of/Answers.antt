use Rattle.pass_caveats.proofs.caveat.line_of.Goals as goal
use Rattle.pass_caveats.proofs.ChoiceLemmas.{no_line}

pub returns-in_err-actions : goal.returns-in_err-actions
returns-in_err-actions c =
    rw c.from_residual.ensures (no_line c.args.text.now c.in_default.ensures c.in_default-read_kind.ensures c.in_default-read_hours.ensures
    c.in_default-read_days.ensures c.in_default-read_weekdays.ensures c.in_default-read_until.ensures c.in_default-read_guests.ensures
    c.in_default-read_spend.ensures c.in_err-actions.ensures)
