use Rattle.club_reference.proofs.edits.set_quota.Given as goal
use Rattle.std.proofs.Common.{◌≡◌}
use Rattle.club_core.specs.After.{member_with_quota}
use Rattle.club_reference.proofs.StepLemmas.{edited}

abbrev pub invariant-loop-member : goal.invariant-loop-member
invariant-loop-member l = l.members ≡ edited (member_with_quota l.name l.quota) l.member-index l.initial.members
