use Rattle.club_gate.proofs.desk.Desk.verdict_under.Goals as goal
use Rattle.std.proofs.lemmas.Grind.{common_steps}
use Rattle.club_gate.proofs.{Common.{None, arith, rules, sym, ◌∙◌, ◌≡◌}, DeskLemmas.reads, VerifyLemmas.{verdict_read, on_record}}

pub returns-then-is_some : goal.returns-then-is_some
returns-then-is_some g c = reads g.met.S.ClubStore.sound (search rules) (λ clean club others represents sound pass fields short signer.
    let key = c.args.key.now in
    let row = on_record club pass c.args.moment key signer in
    let before = c.caveat_fault.ensures.was_clean clean in
    let seen = c.in_ok-view.ensures.returned before club others represents pass fields short in
    let fault = c.in_ok-fault.ensures.returned clean club others (c.first_view.ensures.kept before club others represents) row pass fields short in
    let read = verdict_read c.own_bookings_suffice.ensures club key c.args.moment pass c.args.request.now c.in_ok-view.view c.in_ok-fault.fault sound
    signer seen (rw c.ask.ensures at fault) in
    c.answer.ensures ∙ (read.1 (cc) ∙ sym read.0))

pub returns : goal.returns
returns g c = reads g.met.S.ClubStore.sound (search rules) (λ clean club others represents sound pass fields short signer.
    let key = c.args.key.now in
    let row = on_record club pass c.args.moment key signer in
    let between = c.last_view.ensures.was_clean clean in
    let before = c.caveat_fault.ensures.was_clean between in
    let seen = c.in_ok-view.ensures.returned before club others represents pass fields short in
    let after = c.first_view.ensures.kept before club others represents in
    let fault = c.in_ok-fault.ensures.returned between club others after row pass fields short in
    let last = c.in_ok-view-2.ensures.returned clean club others (c.caveat_fault.ensures.kept between club others after) pass key row seen in
    let read = verdict_read c.own_bookings_suffice.ensures club key c.args.moment pass c.args.request.now c.in_ok-view.view c.in_ok-fault.fault sound
    signer seen (rw c.ask.ensures at fault) in
    let none : c.in_ok-fault.fault ≡ None = grind (arith, common_steps, c.if-is_some.false, c.is_some.ensures) in
    c.answer-2.ensures ∙ rw c.as_ref.ensures.value (last ∙ sym (rw none at read.0)))
