use Rattle.desk_theorem.proofs.crash.served_survives_a_crash.Goals as goal
use Rattle.std.proofs.{Common.{inl, inr, List, [], ◌∷◌, All, refl, arith}, Math.Logic.∥∥₁_map, lemmas.List.Elements.{All-head, All-tail, Contains-append_right}}
use Rattle.club_core.specs.{Club.Club, Run.Event}
use Rattle.club_gate.specs.Runs.{DeskResponse}
use Rattle.club_laws.specs.RunsWithFailures.{RepeatsServedReplies}
use Rattle.club_store.specs.Opening.{RepresentsOne}
use Rattle.desk_theorem.specs.Crash.{RecoversOne}
use Rattle.sqlite.specs.{Files.file_state, State.State}

one_of : (state : State) (clubs : List Club) (events : List Event) (returned : List DeskResponse)
    → All (λ (c : Club). RepeatsServedReplies c events returned) clubs
    → RepresentsOne state clubs → RecoversOne state clubs events returned
one_of state [] events returned again h = absurd h
one_of state (club ∷ clubs) events returned again (inl represents) =
    record {
      club = club;
      among = (0, omega arith, refl);
      represents = represents;
      again = All-head
          (λ (c : Club). RepeatsServedReplies c events returned) club clubs again;
    }
one_of state (club ∷ clubs) events returned again (inr h) =
    let rest = one_of state clubs events returned (All-tail (λ (c : Club). RepeatsServedReplies c events returned) club clubs again) h in
    record { club = rest.club; among = Contains-append_right (club ∷ []) clubs rest.club rest.among; represents = rest.represents; again = rest.again }

pub returns : goal.returns
returns g c = λ clubs events returned again left crash opened.
    ∥∥₁_map (c.one_club_recovered.ensures clubs left crash opened) (one_of (file_state c.args.after.now) clubs events returned again)
