use Rattle.pass_caveats.proofs.parts.first_part.Goals as goal
use Rattle.std.proofs.{Common.{rules, ◌≡◌, ◌≢◌, tests, arith}, lemmas.{Bool.Decides.nat_tests, Grind.common_steps, Iterator.IsFirst-from_position}}
use Rattle.std.proofs.lemmas.{Iterator.YieldsList-from_slice, List.Splits.slice_split_none}
use Rattle.pass_caveats.proofs.ChoiceLemmas.{parts_of-comma, tail_is}

pub returns-in-Some : goal.returns-in-Some
returns-in-Some c =
    let r =
    IsFirst-from_position _ _ _ (λ x. x ≡ 44) (λ x. x ≢ 44) c.in-Some.ensures.ran (YieldsList-from_slice c.args.text.now cc)
    (λ x q k. search (rules, tests)) (λ x q k. search (rules, tests)) in
    parts_of-comma c.args.text.now _ c.in-Some.comma r.0 r.1 r.2 (tail_is c.args.text.now c.in-Some.comma)

pub returns-in-None : goal.returns-in-None
returns-in-None c =
    let r =
    IsFirst-from_position _ _ _ (λ x. x ≡ 44) (λ x. x ≢ 44) c.in-None.ensures.ran (YieldsList-from_slice c.args.text.now cc)
    (λ x q k. search (rules, tests)) (λ x q k. search (rules, tests)) in
    grind (arith, nat_tests, common_steps, slice_split_none)
