use Rattle.desk_server.specs.Served as served
use Rattle.clubdesk_commands.specs.Run as spec
use Rattle.clubdesk_commands.proofs.server.serve_file.Goals as goal
use Rattle.std.proofs.Common.{Err, ap, refl}
use Rattle.clubdesk_commands.{proofs.{FollowedTrace.follows_machine, RunLemmas.over_the_store}, specs.OfficeDesk.CarriesOutBy}

pub returns-in-Err-clause-done : goal.returns-in-Err-clause-done
returns-in-Err-clause-done g c = spec.not_opened c.in-Err.fault c.in-Err.ensures (ap Err c.from.ensures) refl served.nothing

pub returns-in-Err-make_door-clause-done : goal.returns-in-Err-make_door-clause-done
returns-in-Err-make_door-clause-done g c =
    spec.no_door c.in-Err-make_door.fault c.in-Ok.store c.open.new.self c.in-Ok.ensures c.close.ensures
    (ap Err c.from-in-Err-make_door.ensures) refl served.nothing

pub returns-clause-done : goal.returns-clause-done
returns-clause-done g c =
    let served = rw c.new-desk.ensures at c.serve-outcome.ensures.served in
    let over = over_the_store _ _ _ (CarriesOutBy g.D.Store.ClubStore.ghosts) c.args.service served.0 _
    c.serve-outcome.new.desk.0 c.serve-outcome.new.desk.1 _ c.serve-outcome.result served.1
    in
    spec.server_done c.in-Ok.store c.serve-outcome.new.desk.0 c.open.new.self served.0 c.in-Ok.ensures
    over (follows_machine _ _ _ c.args.service served.0 _ c.serve-outcome.result _ _ c.follows_one_more.ensures.none
    c.follows_one_more.ensures.more c.followed_runs_are_lawful.ensures
    (g.met.D.Store.ClubStore.sound c.in-Ok.store) over) c.serve-outcome.ensures.announced
    (rw c.into_store.ensures at c.close-2.ensures)
