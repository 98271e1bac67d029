use Rattle.club_core.specs.declared.request.Request.TheVariants as asked
use Rattle.club_gate.proofs.desk.Desk.account_view.Goals as goal
use Rattle.club_core.specs.Basis.{view_in}
use Rattle.club_gate.proofs.{Common.{◌≡◌, Some, refl, ◌∙◌, sym, rules}, DeskLemmas.reads, VerifyLemmas.account_seen}

pub returns-in-Some-2 : goal.returns-in-Some-2
returns-in-Some-2 g c = reads g.met.S.ClubStore.sound (search rules) (λ was_clean club others represents sound.
    let before = c.with_sums.ensures.was_clean was_clean in
    let held = sym (c.in_ok-key.ensures.returned before club others represents) ∙ c.in-Some.is in
    let sums = c.in_ok-view.ensures.returned was_clean club others (c.key.ensures.kept before club others represents) in
    let view : Some c.in-Some-2.view ≡ view_in club c.args.key.now asked.Account c.args.moment =
    sym c.in-Some-2.is ∙ (rw (c.of_key.ensures, c.row.ensures) at sums
    ∙ account_seen c.own_bookings_suffice.ensures club c.args.key.now c.in-Some.key c.args.moment sound held)
    in
    rw (held, ← rw held at view) refl)
