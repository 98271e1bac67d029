use Rattle.club_reference.proofs.edits.set_numbers.Given as goal
use Rattle.std.proofs.Common.{◌≡◌}
use Rattle.club_core.specs.After.{facility_with_numbers}
use Rattle.club_reference.proofs.StepLemmas.{edited}

abbrev pub invariant-loop-facility : goal.invariant-loop-facility
invariant-loop-facility l = l.facilities ≡ edited (facility_with_numbers l.name l.places l.price l.opens l.shuts) l.facility-index l.initial.facilities
