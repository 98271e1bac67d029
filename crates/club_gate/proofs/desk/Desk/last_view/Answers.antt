use Rattle.club_gate.proofs.desk.Desk.last_view.Goals as goal
use Rattle.std.proofs.lemmas.Result.{IfOk-weaker}
use Rattle.club_core.specs.{Laws.books_anew, declared.view.View.View}
use Rattle.club_gate.proofs.{Common.{◌≡◌, true, false, Some, refl, ap, ◌∙◌, rules}, DeskLemmas.reads, VerifyLemmas.{last_reads, with_member}}

pub returns-in_ok-view-in-View : goal.returns-in_ok-view-in-View
returns-in_ok-view-in-View g c = reads g.met.S.ClubStore.sound (search rules) (λ clean club others represents sound.
    last_reads c.own_bookings_suffice.ensures club c.args.request.now c.args.moment c.args.view (Some c.in_ok-view-in-View.view) sound
    (rw (c.in-View.is, c.in_ok-view-in-View.ensures.returned clean club others represents) refl))

pub returns-then-not-books_anew : goal.returns-then-not-books_anew
returns-then-not-books_anew g c = reads g.met.S.ClubStore.sound (search rules) (λ clean club others represents sound.
    let repeats : books_anew c.args.view ≡ false = cc in
    last_reads c.own_bookings_suffice.ensures club c.args.request.now c.args.moment c.args.view (Some c.args.view) sound (rw (c.in-Book.is, repeats) refl))

pub returns-in_ok-view-in-Book : goal.returns-in_ok-view-in-Book
returns-in_ok-view-in-Book g c = reads g.met.S.ClubStore.sound (search rules) (λ clean club others represents sound.
    let books : books_anew c.args.view ≡ true = cc in
    let between = c.with_member.ensures.was_clean clean in
    let slot = c.in_ok-view-in-Book.ensures.returned between club others represents in
    IfOk-weaker c.with_member.result _ _ (λ found e. last_reads c.own_bookings_suffice.ensures club c.args.request.now c.args.moment c.args.view found sound
    (e ∙ (ap (λ (v : View). with_member club c.args.moment v) slot ∙ rw (c.in-Book.is, books) refl)))
    (c.with_member.ensures.returned clean club others (c.with_slot-in-Book.ensures.kept between club others represents)))

pub returns-in-Cancel : goal.returns-in-Cancel
returns-in-Cancel g c = reads g.met.S.ClubStore.sound (search rules) (λ clean club others represents sound.
    last_reads c.own_bookings_suffice.ensures club c.args.request.now c.args.moment c.args.view (Some c.args.view) sound (rw c.in-Cancel.is refl))

pub returns-in-Account : goal.returns-in-Account
returns-in-Account g c = reads g.met.S.ClubStore.sound (search rules) (λ clean club others represents sound. IfOk-weaker c.with_sums.result _ _ (λ found e.
    last_reads c.own_bookings_suffice.ensures club c.args.request.now c.args.moment c.args.view found sound (rw c.in-Account.is e))
    (c.with_sums.ensures.returned clean club others represents))
