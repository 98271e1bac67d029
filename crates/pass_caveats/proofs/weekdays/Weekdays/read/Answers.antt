use Rattle.pass_caveats.proofs.weekdays.Weekdays.read.Goals as goal
use Rattle.std.proofs.Common.{[], ◌∷◌, sym, ◌∙◌, refl}
use Rattle.club_values.specs.Kind.{weekdays}
use Rattle.pass_caveats.{proofs.ChoiceLemmas.{reads_choice, no_choice, something_left, nothing_left}, specs.Choices.{weekday_text, has_weekday}}

pub returns-then-is_some : goal.returns-then-is_some
returns-then-is_some c =
    let some = something_left c.skip-sunday.result.1 (sym c.is_some.ensures ∙ c.if-is_some.true) in
    λ set h. no_choice weekday_text weekdays (record { distinct = refl; plain = refl })
    (c.skip-monday.result.0 ∷ c.skip-tuesday.result.0 ∷ c.skip-wednesday.result.0 ∷ c.skip-thursday.result.0 ∷ c.skip-friday.result.0 ∷
    c.skip-saturday.result.0 ∷ c.skip-sunday.result.0 ∷ []) c.args.text.now _ some (
      _,
      c.skip-monday.ensures,
      (
        _,
        c.skip-tuesday.ensures,
        (
          _,
          c.skip-wednesday.ensures,
          (_, c.skip-thursday.ensures, (_, c.skip-friday.ensures, (_, c.skip-saturday.ensures, (_, c.skip-sunday.ensures, refl)))),
        ),
      ),
    )
    (has_weekday set) h.0 h.1

pub returns : goal.returns
returns c =
    let end = nothing_left c.skip-sunday.result.1 (sym c.is_some.ensures ∙ c.if-is_some.false) in
    reads_choice (has_weekday _) weekday_text weekdays c.args.text.now (
      _,
      c.skip-monday.ensures,
      (
        _,
        c.skip-tuesday.ensures,
        (
          _,
          c.skip-wednesday.ensures,
          (_, c.skip-thursday.ensures, (_, c.skip-friday.ensures, (_, c.skip-saturday.ensures, (_, c.skip-sunday.ensures, end)))),
        ),
      ),
    )
