use Rattle.club_gate.proofs.desk.Desk.run.Goals as goal
use Rattle.club_gate.{proofs.{Common.{All-head, IsSound, responses_of, machine_events}, FollowedRuns.for_seen}, specs.Runs.{IsLawfulRun, LeavesClub}}

pub returns-clause-lawful : goal.returns-clause-lawful
returns-clause-lawful g c = λ h club others s.
    let new = c.follow.new.self in
    let sound = All-head IsSound club others (g.met.S.ClubStore.sound c.args.self.now club others s) in
    for_seen g.S.ClubStore.ghosts new club others c.args.events.now c.follow.result (λ replies. responses_of replies.items) (IsLawfulRun club)
    c.sees_events.ensures c.follow.ensures.bytes c.follow.ensures.within (c.follow.ensures.followed h club others s) (λ responses within followed.
    (c.followed_runs_are_lawful.ensures new club others (machine_events c.args.events.now) responses sound within followed).0)

pub returns-clause-represents : goal.returns-clause-represents
returns-clause-represents g c = λ h club others s.
    let ghosts = g.S.ClubStore.ghosts in
    let new = c.follow.new.self in
    let sound = All-head IsSound club others (g.met.S.ClubStore.sound c.args.self.now club others s) in
    for_seen ghosts new club others c.args.events.now c.follow.result (λ replies. responses_of replies.items) (LeavesClub ghosts.represents new club others)
    c.sees_events.ensures c.follow.ensures.bytes c.follow.ensures.within (c.follow.ensures.followed h club others s) (λ responses within followed.
    (c.followed_runs_are_lawful.ensures new club others (machine_events c.args.events.now) responses sound within followed).1)
