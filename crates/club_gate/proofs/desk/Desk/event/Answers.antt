use Rattle.club_core.specs.Run as machine
use Rattle.club_gate.proofs.desk.Desk.event.Goals as goal
use Rattle.club_gate.proofs.{Common.refl, DeskLemmas.asked_steps}

pub returns-in-Asked : goal.returns-in-Asked
returns-in-Asked g c = rw c.in-Asked.is (record {
  was_clean = c.ask.ensures.was_clean;
  steps = λ clean.
      let seen = c.ask.ensures.steps clean in
      (machine.Asked seen.0 c.in-Asked.moment, (seen.0, seen.1, refl), asked_steps _ _ _ seen.0 c.in-Asked.moment _ seen.2);
  failed = c.ask.ensures.failed;
})

pub returns-in-Commanded : goal.returns-in-Commanded
returns-in-Commanded g c = rw c.in-Commanded.is (record {
  was_clean = c.office.ensures.was_clean;
  steps = λ clean. (_, refl, c.office.ensures.steps clean);
  failed = c.office.ensures.failed;
})
