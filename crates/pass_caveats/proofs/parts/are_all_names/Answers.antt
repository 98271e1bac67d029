use Rattle.pass_caveats.proofs.parts.are_all_names.Goals as goal
use Rattle.std.proofs.{Common.{◌==◌, rules, List, ℕ, tests}, lemmas.Iterator.{cases_from_all, Splits.YieldsList-from_slice_split}}
use Rattle.club_values.specs.Name.{IsName}
use Rattle.pass_caveats.proofs.ChoiceLemmas.{all_from_all}

pub returns : goal.returns
returns c =
    let r =
    cases_from_all _ _ c.all.result IsName (λ (part : List ℕ). IsName part → ⊥) c.all.ensures.ran
    (YieldsList-from_slice_split _ (λ byte. byte == 44) c.args.text.now c.split.ensures.rest c.split.ensures.done c.split.ensures.closure
    (λ x r q k. search (rules, tests))) (λ x q k. search (rules, tests)) (λ x q k. search (rules, tests)) in
    all_from_all _ _ IsName r
