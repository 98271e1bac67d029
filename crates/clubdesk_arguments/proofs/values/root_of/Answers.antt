use Rattle.clubdesk_arguments.proofs.values.root_of.Goals as goal
use Rattle.std.proofs.Common.{◌∙◌, ap, option_and_then, sym}
use Rattle.clubdesk_arguments.{proofs.ArgumentsLemmas.root_made, specs.Values.{has_key_root_length, key_root_of}}

pub returns-in_err-root : goal.returns-in_err-root
unfolding key_root_of
returns-in_err-root c = c.from_residual.ensures ∙ ap (option_and_then has_key_root_length) (sym c.in_err-root.was ∙ c.from_hex.ensures)

pub returns : goal.returns
unfolding key_root_of
returns c =
    root_made c.in_ok-root.root c.new.result (rw c.as_slice.ensures at c.new.ensures.within) (rw c.as_slice.ensures at c.new.ensures.value)
    ∙ ap (option_and_then has_key_root_length) (sym c.in_ok-root.was ∙ c.from_hex.ensures)
