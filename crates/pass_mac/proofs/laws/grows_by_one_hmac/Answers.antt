use Rattle.std.proofs.{Common.{[], ◌∷◌}, lemmas.List.Sums.fold-append}
use Rattle.pass_mac.specs.Hmac.{hmac}
use Rattle.pass_mac.proofs.laws.grows_by_one_hmac.Goals as goal

pub returns : goal.returns
returns c key identifier caveats caveat = fold-append hmac (hmac key identifier) caveats (caveat ∷ [])
