use Rattle.club_gate.proofs.desk.Desk.answer_to.Given as given
use Rattle.club_gate.proofs.desk.Desk.answer_to.Goals as goal
use Rattle.club_core.specs.Office.{office_verdict}
use Rattle.club_gate.proofs.{Common.{All-head, Club, FitsIfAny, IsSound, List, Ok, arith, sym, ◌≡◌}, DeskLemmas.{command_done, command_failed, command_fits}}
use Rattle.club_gate.proofs.desk.Desk.answer_to.Goals.{After-settle}

decided : (g : given.Over) (c : After-settle g) → g.S.ClubStore.ghosts.is_clean c.settle.new.self → (club : Club) (others : List Club)
    → g.S.ClubStore.ghosts.represents c.args.self.now club others → (office_verdict club c.args.command.now ≡ Ok c.in-Ok.change)
    × g.S.ClubStore.ghosts.represents c.command_view.new.self club others × FitsIfAny c.in-Ok.change club
decided g c was_clean club others represents =
    let before = c.settle.ensures.was_clean was_clean in
    let is = sym (rw (c.in_ok-view.ensures.returned before club others represents) at c.in-Ok.ensures) in
    let sound = All-head IsSound club others (g.met.S.ClubStore.sound c.args.self.now club others represents) in (
      is,
      c.command_view.ensures.kept before club others represents,
      command_fits c.changes_fit.ensures club c.args.command.now c.in-Ok.change sound c.within.ensures is,
    )

pub returns-in_err-settle-in-Ok-clause-steps : goal.returns-in_err-settle-in-Ok-clause-steps
returns-in_err-settle-in-Ok-clause-steps g c = grind (arith, decided, command_failed)

pub returns-in_ok-settle-in-Ok-clause-steps : goal.returns-in_ok-settle-in-Ok-clause-steps
returns-in_ok-settle-in-Ok-clause-steps g c = grind (arith, decided, command_done)
