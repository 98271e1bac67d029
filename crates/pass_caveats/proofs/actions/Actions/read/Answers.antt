use Rattle.pass_caveats.proofs.actions.Actions.read.Goals as goal
use Rattle.std.proofs.Common.{[], ◌∷◌, sym, ◌∙◌, refl}
use Rattle.club_values.specs.Kind.{action_text}
use Rattle.pass_caveats.{proofs.ChoiceLemmas.{reads_choice, no_choice, something_left, nothing_left}, specs.Choices.{all_actions, has_action}}

pub returns-then-is_some : goal.returns-then-is_some
returns-then-is_some c =
    let some = something_left c.skip-account.result.1 (sym c.is_some.ensures ∙ c.if-is_some.true) in
    λ set h. no_choice action_text all_actions (record { distinct = refl; plain = refl })
    (c.skip-view.result.0 ∷ c.skip-book.result.0 ∷ c.skip-cancel.result.0 ∷ c.skip-account.result.0 ∷ []) c.args.text.now _ some
    (_, c.skip-view.ensures, (_, c.skip-book.ensures, (_, c.skip-cancel.ensures, (_, c.skip-account.ensures, refl)))) (has_action set) h.0 h.1

pub returns : goal.returns
returns c =
    let end = nothing_left c.skip-account.result.1 (sym c.is_some.ensures ∙ c.if-is_some.false) in
    reads_choice (has_action _) action_text all_actions c.args.text.now
    (_, c.skip-view.ensures, (_, c.skip-book.ensures, (_, c.skip-cancel.ensures, (_, c.skip-account.ensures, end))))
