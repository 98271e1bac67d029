use Rattle.club_reference.proofs.sums.balance.Goals as goal
use Rattle.std.proofs.Common.{◌∙◌}
use Rattle.club_core.specs.Club.{cost_of}
use Rattle.club_reference.{proofs.StepLemmas.fold_less, specs.Widths.own_bookings}

pub returns : goal.returns
returns c =
    let member = c.args.member.now in
    c.left_of.ensures ∙ fold_less cost_of member.credited (own_bookings c.args.keys.now member.name c.args.bookings.now)
