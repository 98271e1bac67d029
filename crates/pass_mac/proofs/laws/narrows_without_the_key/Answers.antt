use Rattle.std.proofs.{Common.{List, ℕ, ◌∙◌, ap, sym, fold}, lemmas.List.Sums.fold-append}
use Rattle.pass_mac.specs.Hmac.{hmac}
use Rattle.pass_mac.proofs.laws.narrows_without_the_key.Goals as goal

pub returns : goal.returns
returns c key identifier signature caveats more is_signed =
    ap (λ (s : List ℕ). fold hmac s more) is_signed ∙ sym (fold-append hmac (hmac key identifier) caveats more)
