use Rattle.club_reference.proofs.club.Club.office.Goals as goal
use Rattle.std.proofs.Common.{◌∙◌, sym}
use Rattle.club_reference.proofs.StepLemmas.{fits_after, allows_command}

pub apply-requires : goal.apply-requires
apply-requires c =
    fits_after c.args.self.now _ c.change_of.ensures.fits
    (allows_command c.args.self.now c.args.command.now _ (rw c.in-Ok-Some.field-0-is at (sym c.change_of.ensures.value ∙ c.in-Ok-Some.is)))
