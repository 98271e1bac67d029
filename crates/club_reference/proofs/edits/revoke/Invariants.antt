use Rattle.club_reference.proofs.edits.revoke.Given as goal
use Rattle.std.proofs.Common.{◌≡◌}
use Rattle.club_core.specs.After.{revoked_key}
use Rattle.club_reference.proofs.StepLemmas.{edited}

abbrev pub invariant-loop-key : goal.invariant-loop-key
invariant-loop-key l = l.keys ≡ edited (revoked_key l.name) l.key-index l.initial.keys
