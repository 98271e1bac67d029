-- The result of `kept_of` for the whole list equals the parsed caveats combined with the result of
-- `kept_of` for the remaining caveats.
use Rattle.pass_json.proofs.object.all_caveats.Given as goal
use Rattle.std.proofs.Common.{◌≡◌, map, drop}
use Rattle.pass_json.proofs.ObjectLemmas.{kept_of, with_kept}
use Rattle.serde_json.specs.View.{items_view}

abbrev pub invariant-loop-value : goal.invariant-loop-value
invariant-loop-value l = kept_of (items_view l.list)
    ≡ with_kept (map (λ identifier. identifier.items) l.identifiers.items) l.third_party (kept_of (items_view (drop l.value-index l.list)))
