use Rattle.club_reference.proofs.edits.debit.Given as goal
use Rattle.std.proofs.Common.{◌≡◌}
use Rattle.club_core.specs.After.{debited_member}
use Rattle.club_reference.proofs.StepLemmas.{edited}

abbrev pub invariant-loop-member : goal.invariant-loop-member
invariant-loop-member l = l.members ≡ edited (debited_member l.name l.points) l.member-index l.initial.members
