use Rattle.pass_caveats.proofs.unspent.unspent_at.Goals as goal
use Rattle.std.proofs.Common.{◌≡◌, true, false}
use Rattle.pass_caveats.{proofs.CaveatLemmas.{holds_allowed, holds_denied}, specs.{Caveat.permits, Spending.after_spending}}

pub returns-then-not-allows : goal.returns-then-not-allows
returns-then-not-allows c =
    let denies : permits c.in-Some.caveat (after_spending 0 c.args.ask.now) ≡ false = cc in
    holds_denied c.is_understood_once.ensures _ _ _ _ c.in-Some.ensures.understood denies

pub returns : goal.returns
returns c =
    let allows : permits c.in-Some.caveat (after_spending 0 c.args.ask.now) ≡ true = cc in
    rw c.slack_of.ensures (holds_allowed c.is_understood_once.ensures _ _ _ _ c.in-Some.ensures.understood allows)
