use Rattle.club_reference.proofs.edits.credit.Goals as goal
use Rattle.std.proofs.Common.{◌≤◌, arith}
use Rattle.club_core.specs.After.{credited_member}
use Rattle.club_reference.proofs.StepLemmas.{holds_next}
use Rattle.club_rows.specs.declared.member.Member.{Member}

pub credit_row-requires : goal.credit_row-requires
credit_row-requires c =
    holds_next (λ (member : Member). member.credited ≤ 999_999_999)
    (credited_member c.args.name.now c.args.points) c.loop-member.member-index c.args.members.now
    c.loop-member.members c.member-item.result (omega arith) c.loop-member.invariant c.requires
