use Rattle.sqlite_disk.specs.declared.Disk as disk
use Rattle.desk_theorem.proofs.crash.run_and_leave.Goals as goal
use Rattle.std.proofs.{Common.{◌≡◌, ◌⊎◌, inl, inr, List, [], ◌∷◌, All, refl, subst, sym}, Math.Logic.∥∥₁_map, lemmas.List.Elements.{All-nil, All-cons}}
use Rattle.std.proofs.lemmas.List.Elements.{All-head, All-tail, All-weaker}
use Rattle.club_core.specs.{Club.{Club, IsSound}, Run.Event}
use Rattle.club_gate.specs.Runs.{IsWithinOneEvent, MayBeLeft, DeskResponse, club_left, responses_of}
use Rattle.club_laws.specs.RunsWithFailures.{RepeatsServedReplies}
use Rattle.club_store.specs.Opening.{HoldsOneOf, RepresentsOne}
use Rattle.club_tables.specs.Tables.{IsLeftOf}
use Rattle.desk_theorem.specs.Crash.{IsReopened, RecoversAfterRun}
use Rattle.sqlite.specs.{Files.file_state, Held.Held, Recovery.Image, Tree.Trees, declared.FileStore.FileStore}

-- The club `now` is the club after the run, or another club that a crash after the run may leave.
abbrev IsOf : Club → List Club → List Event → List DeskResponse → Club → Type 0
IsOf club others events returned now =
    (now ≡ club_left club events returned) ⊎ MayBeLeft club others (club_left club events returned) events returned now

module _ {E : Type 0} {e : disk.Ghosts E} (opened : Held (FileStore E e)) (club : Club) (others : List Club) (events : List Event)
    (returned : List DeskResponse)
    (again : (now : Club) → IsWithinOneEvent (club_left club events returned) now → RepeatsServedReplies now events returned) where
  recovers_after_run : (clubs : List Club) → All IsSound clubs → All (IsOf club others events returned) clubs → RepresentsOne (file_state opened) clubs
      → RecoversAfterRun opened club others events returned
  recovers_after_run [] sound each represents = absurd represents
  recovers_after_run (now ∷ clubs) sound each (inl represents) = record {
    now = now;
    is = All-head (IsOf club others events returned) now clubs each;
    again = again now;
    represents = (All-cons IsSound now [] (All-head IsSound now clubs sound) (All-nil IsSound), represents);
  }
  recovers_after_run (now ∷ clubs) sound each (inr later) =
      recovers_after_run clubs (All-tail IsSound now clubs sound) (All-tail (IsOf club others events returned) now clubs each) later

reopened_as_one : {E : Type 0} {e : disk.Ghosts E} (left : Image) (opened : Held (FileStore E e)) → IsReopened left opened
    → (clubs : List Club) → HoldsOneOf left clubs → RepresentsOne (file_state opened) clubs
reopened_as_one left opened (inl opens) clubs holds = opens.again clubs holds
reopened_as_one left opened (inr adopts) clubs holds =
    adopts.again clubs (record {
      opening = adopts.opening.0;
      live = adopts.opening.1;
      left = subst (λ (trees : Trees). IsLeftOf trees clubs) (sym (adopts.found.holds holds.0 holds.1)) holds.2;
    })

pub returns-clause-answered : goal.returns-clause-answered
returns-clause-answered g c = c.in_ok-replies.ensures.answered

pub returns-clause-again : goal.returns-clause-again
returns-clause-again g c = λ club others represents events are left opened by reopened.
    let returned = responses_of c.in_ok-replies.replies.items in
    let last = club_left club events returned in
    let ran = c.in_ok-replies.ensures.leaves by.0 club others represents events are in
    let clubs = last ∷ ran.left in
    let each = All-cons (IsOf club others events returned) last ran.left (inl refl)
    (All-weaker (MayBeLeft club others last events returned) (IsOf club others events returned) (λ now may. inr may) ran.left ran.each) in
    let held = c.files_hold_one_of.ensures clubs left (record { clean = by.0; numbers = ran.represents.1; one_of = ran.represents.2; files = by.1 }) in
    ∥∥₁_map held (λ holds. recovers_after_run opened club others events returned ran.again clubs ran.represents.0 each
    (reopened_as_one left opened reopened clubs holds))
