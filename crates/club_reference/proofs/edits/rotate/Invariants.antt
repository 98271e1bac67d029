use Rattle.club_reference.proofs.edits.rotate.Given as goal
use Rattle.std.proofs.Common.{◌≡◌}
use Rattle.club_core.specs.After.{rotated_key}
use Rattle.club_reference.proofs.StepLemmas.{edited}

abbrev pub invariant-loop-key : goal.invariant-loop-key
invariant-loop-key l = l.keys ≡ edited (rotated_key l.name l.root l.until) l.key-index l.initial.keys
