use Rattle.club_values.proofs.day.Day.weekday.Goals as goal
use Rattle.std.proofs.Common.{◌≡◌, ℕ, get_or, ap, ◌∙◌, arith}
use Rattle.club_values.specs.Kind.{weekdays}
use Rattle.jiff_core.specs.{Calendar.weekday_number, Weekday.monday_zero, declared.civil.weekday.Weekday.{Weekday, TheVariants.Monday}}

by_number : (weekday : Weekday) → weekday ≡ get_or weekdays (monday_zero weekday) Monday
by_number weekday = grind arith

pub returns : goal.returns
unfolding weekday_number
returns c =
    by_number c.weekday.result ∙ ap (λ (n : ℕ). get_or weekdays n Monday) (c.weekday.ensures ∙ ap weekday_number c.date.ensures.same)
