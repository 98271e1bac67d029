use Rattle.http_request.proofs.RouteLemmas.{knows_places}
use Rattle.matchit.proofs.OnLiterals.{matchit_on_literals}
use Rattle.http_request.proofs.routes.Routes.new.Goals as goal

pub invariant_of-result : goal.invariant_of-result
unfolding matchit_on_literals
invariant_of-result c =
    let booking = c.in_ok-add.ensures in
    let slot = c.in_ok-add-2.ensures in
    let account = c.in_ok-add-3.ensures in
    rw (account.1, slot.1, booking.1, c.new-router.ensures) (record { knows = knows_places c.reads_places.ensures _ _ _ })
