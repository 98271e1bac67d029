use Rattle.club_values.proofs.moment.Moment.text.Goals as goal
use Rattle.std.proofs.Common.{ℕ, List, subst, sym, arith}
use Rattle.club_values.{proofs.DayLemmas.{joined_text, moment_text-spells}, specs.Moment.SpellsMoment}

pub returns-clause-value : goal.returns-clause-value
returns-clause-value c =
    joined_text c.text.result c.two_digits.result c.two_digits-2.result c.day.result c.minute_of_day-minute.result c.args.self c.text.ensures.spelled
    c.two_digits.ensures c.two_digits-2.ensures c.day.ensures.value c.minute_of_day-minute.ensures.value

pub returns-clause-spelled : goal.returns-clause-spelled
returns-clause-spelled c =
    let P : List ℕ → Type 0 = λ text. SpellsMoment text c.args.self in
    subst P (sym (returns-clause-value c)) (moment_text-spells c.args.self (omega arith, omega arith))
