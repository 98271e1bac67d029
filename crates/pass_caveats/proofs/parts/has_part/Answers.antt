use Rattle.pass_caveats.proofs.parts.has_part.Goals as goal
use Rattle.std.proofs.{Common.{◌==◌, rules, List, ℕ, ◌≡◌, ◌≢◌, tests}, lemmas.Iterator.{cases_from_any, Splits.YieldsList-from_slice_split}}
use Rattle.pass_caveats.proofs.ChoiceLemmas.{contains_from_any}

pub returns : goal.returns
returns c =
    let r =
    cases_from_any _ _ c.any.result (λ (part : List ℕ). part ≡ c.args.name.now) (λ (part : List ℕ). part ≢ c.args.name.now) c.any.ensures.ran
    (YieldsList-from_slice_split _ (λ byte. byte == 44) c.args.text.now c.split.ensures.rest c.split.ensures.done c.split.ensures.closure
    (λ x r q k. search (rules, tests))) (λ x q k. search (rules, tests)) (λ x q k. search (rules, tests)) in
    contains_from_any _ _ _ r
