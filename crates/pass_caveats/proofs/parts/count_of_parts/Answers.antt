use Rattle.pass_caveats.proofs.parts.count_of_parts.Goals as goal
use Rattle.std.proofs.{Common.{◌==◌, rules, tests}, lemmas.Iterator.{Consumers.count_from_yields_List, Splits.YieldsList-from_slice_split}}

pub returns : goal.returns
returns c =
    count_from_yields_List _ _ c.count.ensures.ran
    (YieldsList-from_slice_split _ (λ byte. byte == 44) c.args.text.now c.split.ensures.rest c.split.ensures.done c.split.ensures.closure
    (λ x r q k. search (rules, tests)))
