use Rattle.club_reference.proofs.edits.cancel.Given as goal
use Rattle.std.proofs.Common.{◌≡◌}
use Rattle.club_core.specs.After.{cancelled_booking}
use Rattle.club_reference.proofs.StepLemmas.{edited}

abbrev pub invariant-loop-booking : goal.invariant-loop-booking
invariant-loop-booking l = l.bookings ≡ edited (cancelled_booking l.key l.number l.refund) l.booking-index l.initial.bookings
