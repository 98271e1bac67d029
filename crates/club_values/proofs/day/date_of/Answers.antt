use Rattle.club_values.proofs.day.date_of.Goals as goal
use Rattle.std.proofs.Common.{arith}
use Rattle.club_values.proofs.DayLemmas.{reads_date, no_date}
use Rattle.jiff_core.proofs.SignedLemmas.{signed_casts}

pub returns : goal.returns
returns c =
    let p = c.in_ok-year.ensures in
    reads_date c.args.text.now c.in_ok-year.year c.in_ok-year.month c.in_ok-year.day _ _ _ c.new.result c.ok.result p (omega (arith, signed_casts))
    (omega (arith, signed_casts)) (omega (arith, signed_casts)) c.new.ensures.succeeds.1 c.new.ensures.value c.ok.ensures.value

pub returns-in_err-year : goal.returns-in_err-year
returns-in_err-year c = rw c.from_residual.ensures (no_date c.args.text.now c.in_err-year.ensures)
