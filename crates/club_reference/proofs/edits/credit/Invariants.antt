use Rattle.club_reference.proofs.edits.credit.Given as goal
use Rattle.std.proofs.Common.{◌≡◌}
use Rattle.club_core.specs.After.{credited_member}
use Rattle.club_reference.proofs.StepLemmas.{edited}

abbrev pub invariant-loop-member : goal.invariant-loop-member
invariant-loop-member l = l.members ≡ edited (credited_member l.name l.points) l.member-index l.initial.members
