-- Lemmas for the proof of the laws of runs, and on adding one event to the events that the desk has
-- handled.
use Rattle.std.proofs.{Common.{append_assoc, OnOk}, lemmas.List.{length-append, Elements.{All-append, All-cons, All-contains_itself, All-weaker}}}
use Rattle.club_core.specs.{Club.{empty_club, member_named}, Run.{Event, step, replies_of}, Store.StoreGhosts, declared.change.Change.Change}
use Rattle.club_gate.proofs.Common.{All, List, None, Option, Some, [], arith, false, inl, inr, length, refl, subst, sym, ◌++◌, ◌∷◌, ◌≡◌, All-nil, Club, Steps}
use Rattle.club_gate.{proofs.Common.{Result, Ok, Err, IfOk, IsSound, IsEvent, IsEventOfBytes, machine_events}, specs.Desk.{IsAnsweredBy, IsRefusedBy}}
use Rattle.club_gate.specs.{Desk.{change_of, others_after}, Laws.SeesEvents, Response.desk_presentation, Runs.{FailedLast, IsFollowed, MakesNoChange}}
use Rattle.club_gate.specs.Runs.{DeskResponse, MayBeLeft, events_answered, AreEventsOf, Conserves, IsAnsweredRun, IsLawfulRun, IsOnce, LeavesClub, club_left}
use Rattle.club_gate.specs.{Runs.ReturnsTheRecord, declared.event.{Event.Event as DeskEvent, OfficeReply.OfficeReply}}
use Rattle.club_laws.specs.{Conservation.{IsConserved, SoundClubsHavePlaces}, Failed.{IsRun, IsStep, has_failed, LeavesOutFailed}}
use Rattle.club_laws.specs.RunsWithFailures.{ConservesWithFailures, SoloLawWithFailures, SoloLawOfTwoWithFailures, SoundWithFailures, RepeatsServedReplies}
use Rattle.club_laws.specs.RunsWithFailures.{RepeatsAfterOneMore, RepeatsWithFailures, CancellationsWithFailures}

ran_more : (club last next : Club) (events : List Event) (responses : List DeskResponse) (event : Event) (one : DeskResponse)
    → IsRun desk_presentation club events responses last
    → IsStep desk_presentation last event one next → IsRun desk_presentation club (events ++ event ∷ []) (responses ++ one ∷ []) next
ran_more club last next [] [] event one h s = (next, subst (λ (c : Club). IsStep desk_presentation c event one next) h s, refl)
ran_more club last next [] (other ∷ responses) event one h s = absurd h
ran_more club last next (other ∷ events) [] event one h s = absurd h
ran_more club last next (other ∷ events) (first ∷ responses) event one h s = (h.0, h.1, ran_more h.0 last next events responses event one h.2 s)

answered_and_one : (events : List Event) (responses : List DeskResponse) (event : Event) (one : DeskResponse) → length responses ≡ length events
    → events_answered (events ++ event ∷ []) (responses ++ one ∷ []) ≡ events_answered events responses ++ events_answered (event ∷ []) (one ∷ [])
answered_and_one [] [] event one e = refl
answered_and_one [] (other ∷ responses) event one e = absurd (omega arith)
answered_and_one (other ∷ events) [] event one e = absurd (omega arith)
answered_and_one (other ∷ events) (first ∷ responses) event one e = grind (arith, answered_and_one events responses event one (omega arith))

abbrev Keeps : Club → Event → Type 0
Keeps last event = change_of last event ≡ None

no_change_more : (last : Club) (events : List Event) (responses : List DeskResponse) (event : Event) (one : DeskResponse) → length responses ≡ length events
    → MakesNoChange last events responses → MakesNoChange last (event ∷ []) (one ∷ []) → MakesNoChange last (events ++ event ∷ []) (responses ++ one ∷ [])
no_change_more last events responses event one e before more = rw (answered_and_one events responses event one e)
    (All-append (Keeps last) (events_answered events responses) (events_answered (event ∷ []) (one ∷ [])) before more)

module _ {S : Type 0} (ghosts : StoreGhosts S) where
  pub followed_none : (now : S) (club : Club) (others : List Club) → ghosts.represents now club others → IsFollowed ghosts now club others [] []
  followed_none now club others h = grind (arith, All-weaker, All-nil, All-contains_itself)

  -- The next lemmas add one event to a list of handled events.
  module _ (now new : S) (club : Club) (others : List Club) (events : List Event) (responses : List DeskResponse) (event : Event) (one : DeskResponse)
      (e : length responses ≡ length events) (f : IsFollowed ghosts now club others events responses) where
    abbrev all : List Event
    all = events ++ event ∷ []

    abbrev returned : List DeskResponse
    returned = responses ++ one ∷ []

    failed_before : MakesNoChange f.last (event ∷ []) (one ∷ []) → (other : Event) → FailedLast club f.last events responses other
        → FailedLast club f.last all returned other
    failed_before none other h = grind (arith, append_assoc, no_change_more, length-append)

    all_with_more : MakesNoChange f.last (event ∷ []) (one ∷ []) → All (MayBeLeft club others f.last all returned) f.left
    all_with_more none = All-weaker (MayBeLeft club others f.last events responses) (MayBeLeft club others f.last all returned) (λ left may. elim may [
      | inl h ↦ inl (h.0, no_change_more f.last events responses event one e h.1 none, h.2)
      | inr h ↦ inr (h.0, failed_before none h.0 h.1, h.2)
    ]) f.left f.each

    left_by_answer : has_failed desk_presentation event one ≡ false → (change : Option Change) → change_of f.last event ≡ change
        → All (MayBeLeft club others (step f.last event).club all returned) (others_after change f.left)
    left_by_answer success None is = subst (λ (c : Club). All (MayBeLeft club others c all returned) f.left) (sym (grind arith))
        (all_with_more (rw success (All-cons (Keeps f.last) event [] is (All-nil (Keeps f.last)))))
    left_by_answer success (Some change) is = All-nil (MayBeLeft club others (step f.last event).club all returned)

    answered_more : IsAnsweredBy ghosts new f.last f.left event one → IsFollowed ghosts new club others all returned
    answered_more a =
        let next = (step f.last event).club in
        record {
          last = next;
          ran = ran_more club f.last next events responses event one f.ran (inl (record { success = a.success; reply = a.reply; steps_club = refl }));
          left = others_after (change_of f.last event) f.left;
          represents = a.represents;
          each = left_by_answer a.success (change_of f.last event) refl;
        }

    refused_more : IsRefusedBy ghosts new f.last f.left event one → IsFollowed ghosts new club others all returned
    refused_more r =
        let Left : Club → Type 0 = MayBeLeft club others f.last all returned in
        let ran = ran_more club f.last f.last events responses event one f.ran (inr (record { failure = r.failure; kept = refl })) in
        let each = all_with_more (rw r.failure (All-nil (Keeps f.last))) in
        let failed : FailedLast club f.last all returned event = record {
          front = events;
          rest = [];
          before = responses;
          response = one;
          since = [];
          place = refl;
          response_place = refl;
          beside = e;
          ran = f.ran;
          failure = r.failure;
          no_change = All-nil (Keeps f.last);
        } in
        elim r.represents [
          | inl same ↦ record { last = f.last; ran = ran; left = f.left; represents = same; each = each }
          | inr changed ↦ record {
            last = f.last;
            ran = ran;
            left = (step f.last event).club ∷ f.left;
            represents = changed;
            each = All-cons Left (step f.last event).club f.left (inr (event, failed, refl)) each;
          }
        ]

    pub followed_more : Steps ghosts now new event one → IsFollowed ghosts new club others all returned
    followed_more steps = elim (steps f.last f.left f.represents) [ inl a ↦ answered_more a | inr r ↦ refused_more r ]

pub for_seen : {S T E : Type 0} (ghosts : StoreGhosts S) (new : S) (club : Club) (others : List Club) (events : List DeskEvent) (r : Result T E)
    (responses : T → List DeskResponse) (P : List Event → List DeskResponse → Type 0) → SeesEvents → OnOk r (All IsEventOfBytes events)
    → OnOk r (All IsEvent (machine_events events)) → IfOk r (λ x. IsFollowed ghosts new club others (machine_events events) (responses x))
    → ((ts : List DeskResponse) → All IsEvent (machine_events events) → IsFollowed ghosts new club others (machine_events events) ts
    → P (machine_events events) ts) → IfOk r (λ x. (seen : List Event) → AreEventsOf events seen → P seen (responses x))
for_seen ghosts new club others events (Ok x) responses P sees bytes within f rule = λ seen are.
    subst (λ (es : List Event). P es (responses x)) ((sees events seen bytes).0 are) (rule (responses x) within f)
for_seen ghosts new club others events (Err e) responses P sees bytes within f rule = tt

module _ {S : Type 0} (ghosts : StoreGhosts S) (new : S) (club : Club) (others : List Club) (events : List Event)
    (responses : List DeskResponse) (leaves : LeavesOutFailed OfficeReply) (f : IsFollowed ghosts new club others events responses) where
  left_by : f.last ≡ club_left club events responses
  left_by = (leaves desk_presentation club f.last events responses f.ran).left

  answered_by : IsAnsweredRun club events responses
  answered_by = subst (IsRun desk_presentation club events responses) left_by f.ran

  pub leaves_club : RepeatsAfterOneMore OfficeReply → LeavesClub ghosts.represents new club others events responses
  leaves_club law =
      let last = club_left club events responses in
      let again = law desk_presentation club last events responses answered_by in
      let At : Club → Type 0 = λ c. RepeatsServedReplies c events responses in
      record {
        left = f.left;
        represents = subst (λ (c : Club). ghosts.represents new c f.left) left_by f.represents;
        each = subst (λ (c : Club). All (MayBeLeft club others c events responses) f.left) left_by f.each;
        again = λ now near. elim near [ inl same ↦ subst At (sym same) again.0 | inr one ↦ subst At (sym one.1) (again.1 one.0) ];
      }

  once_by : RepeatsWithFailures OfficeReply → IsOnce club events responses
  once_by law = λ history rest before since words moment reply again place among beside was accepted.
      rw left_by at (law desk_presentation club f.last history rest before since words moment again reply beside (rw (place, among) at f.ran) was accepted)

  record_by : CancellationsWithFailures OfficeReply → ReturnsTheRecord club events responses
  record_by law = λ history rest before since words moment key number booking again place among beside was named asks accepted.
      rw left_by at (law desk_presentation club f.last history rest before since words moment again key number booking beside
      (rw (place, among) at f.ran) was named asks accepted)

  conserved_by : ConservesWithFailures OfficeReply → All IsEvent events → Conserves club events responses
  conserved_by law within = λ name member empty named.
      let From : Club → Type 0 = λ c. IsRun desk_presentation c events responses (club_left c events responses)
      → member_named name (club_left c events responses) ≡ Some member
      → IsConserved (club_left c events responses) (events_answered events responses) (replies_of c (events_answered events responses)) member
      in
      let from_empty : From empty_club = λ run is. law desk_presentation (club_left empty_club events responses) events responses name member within run is in
      subst From (sym empty) from_empty answered_by named

  pub lawful : SoloLawWithFailures OfficeReply → SoloLawOfTwoWithFailures OfficeReply → RepeatsWithFailures OfficeReply
      → CancellationsWithFailures OfficeReply → ConservesWithFailures OfficeReply → SoundWithFailures OfficeReply → SoundClubsHavePlaces
      → All IsEvent events → IsSound club → IsLawfulRun club events responses
  lawful solo two repeats cancellations conserves keeps places within sound =
      let last = club_left club events responses in
      let sound_left = keeps desk_presentation club last events responses sound within answered_by in
      record {
        run = answered_by;
        solo = λ name. solo desk_presentation name club f.last events responses sound f.ran;
        solo_of_two = λ name other end elsewhere replies sound_other run parts own.
            two desk_presentation name club other f.last end events elsewhere responses replies sound sound_other f.ran run parts own;
        once = once_by repeats;
        returns_the_record = record_by cancellations;
        conserves = conserved_by conserves within;
        never_negative = sound_left.balances;
        never_overbooked = λ slot. places last slot sound_left;
      }
