use Rattle.clubdesk_commands.proofs.input.root_in.Goals as goal
use Rattle.std.proofs.{Common.{◌∙◌, ap, sym, refl}, lemmas.{Bool.{cond-false, false_from_ne_true}, Str.{IsUtf8-from_is_utf8, is_utf8-from_IsUtf8}}}
use Rattle.clubdesk_arguments.specs.Values.{key_root_of}
use Rattle.clubdesk_commands.specs.HandedCommand.{root_of_text}

pub returns-in-Ok : goal.returns-in-Ok
returns-in-Ok c =
    c.root_of.ensures
    ∙ (ap key_root_of c.in-Ok.ensures.cases.0 ∙ rw (← c.without_line_feed.ensures, is_utf8-from_IsUtf8 _ c.in-Ok.ensures.cases.1) refl)

-- Bytes that aren't valid UTF-8 encode no root.
pub returns-in-Err : goal.returns-in-Err
returns-in-Err c =
    sym (cond-false _ _ _ (false_from_ne_true _ (λ e. c.in-Err.ensures.cases.0 (IsUtf8-from_is_utf8 _ e)))) ∙ ap root_of_text c.without_line_feed.ensures
