-- Lemmas for turning a trace of a server over a store into a run of the club's state machine, with
-- what a crash may leave.
use Rattle.club_core.specs.Run as machine
use Rattle.club_http.specs.Exchange as replied
use Rattle.clubdesk_commands.specs.Does as does
use Rattle.clubdesk_commands.specs.Events as spec
use Rattle.clubdesk_commands.specs.OfficeDesk as carried
use Rattle.clubdesk_commands.specs.Run as run
use Rattle.desk_server.specs.Trace as trace
use Rattle.std.proofs.Common.{◌≡◌, ℕ, All, List, [], ◌∷◌, ◌++◌, length, map, Option, Some, None, Result, Ok, Err, inl, inr, refl, ap, subst}
use Rattle.std.proofs.Common.{append_assoc, append-nil, arith}
use Rattle.std.proofs.lemmas.List.{length-append, map-append, same_from_push, Elements.{All-append, All-cons, All-head, All-nil}}
use Rattle.std.specs.{Prelude.String, declared.alloc.Global.Global}
use Rattle.club_clock.specs.Moments.{GivesMoment, showing}
use Rattle.club_core.specs.{Club.{Club, IsSound}, Run.{Asked, Commanded, IsEvent, ToMember, ToOffice}, Store.StoreGhosts}
use Rattle.club_core.specs.{Request.Words, declared.{command.Command.Command, reply.Reply.Reply}}
use Rattle.club_gate.specs.{Desk.{DecidesOrFails, Steps}, Laws.{FollowedRunsAreLawful, FollowsNoEvent, FollowsOneMore}, Runs.{DeskResponse, IsFollowed}}
use Rattle.club_gate.specs.declared.fault.Fault.{Fault as DeskFault}
use Rattle.club_http.specs.{Calls.AnswersBy, Exchange.{AnswerRelation, IsReplied}}
use Rattle.clubdesk_arguments.specs.declared.{fault.Fault.{Fault, TheVariants.Memory}, task.Service.Service}
use Rattle.clubdesk_arguments.specs.declared.task.Task.{Task, TheVariants.{Give, Key, ShowAccount}}
use Rattle.clubdesk_commands.specs.Does.{DeskShows, Does, IsAnswered}
use Rattle.clubdesk_commands.specs.Events.{AreEventsOfEndings, AskForTask, IsEventOfEnding, IsEventOfCommand, IsEventOfRequest, IsLawfulTrace}
use Rattle.clubdesk_commands.specs.{OfficeDesk.{AnswersWith, CarriesOutBy, itself}, Run.{FollowsMachine, RunsServer}}
use Rattle.desk_server.specs.Served.{CommandRelation, Ends, Turn}
use Rattle.desk_server.specs.Trace.{AnsweredCommand, AreCarriedOut, CarriesOutIfCame, ClientExchange, IsTraced, OfficeConnection, RepliesIfRead}
use Rattle.desk_server.specs.Trace.{Ending, Ending.{nobody, overrun, unanswered, from_office, from_client}, ServesEnding, ServesEndings, ServesTrace}
use Rattle.desk_server.specs.Trace.{TakesTurn, Trace, TracedTurn, happened, turn_alone}
use Rattle.desk_server.specs.declared.{office.Answer.Answer, serve.ClockOutOfRange.ClockOutOfRange}
use Rattle.jiff_core.specs.declared.timestamp.Timestamp.{Timestamp}

pub lacks_memory : (answer : Answer) → AnswersWith (Err Memory) answer → answer.carried.status ≡ 4
lacks_memory answer (inl told) = told.0
lacks_memory answer (inr status) = status

asked_steps : {S : Type 0} (ghosts : StoreGhosts S) (old new : S) (words : Words) (moment : ℕ) (reply : Reply)
    → DecidesOrFails ghosts old new words moment reply → Steps ghosts old new (Asked words moment) (ToMember reply)
asked_steps ghosts old new words moment reply did club others represents = grind arith

happened_more : (before : Trace) (turn : TracedTurn)
    → happened (before ++ turn ∷ []) ≡ (happened before ++ map from_office turn.meanwhile) ++ turn.ending ∷ []
happened_more [] turn = grind (arith, append-nil, append_assoc)
happened_more (other ∷ before) turn = grind (arith, happened_more before turn, append_assoc)

module _ {Desk : Type 0} (Answers : ℕ → AnswerRelation Desk) (Carries : CommandRelation Desk) where
  -- One desk did the first part of what happened, and the rest later.
  record Parts (front rest : List Ending) (start new : Desk) : Type 0 where
    now : Desk
    before : ServesEndings Answers Carries start front now
    after : ServesEndings Answers Carries now rest new

  -- The desk served all that happened, and the last thing is `ending`.
  record Last (front : List Ending) (ending : Ending) (start new : Desk) : Type 0 where
    now : Desk
    before : ServesEndings Answers Carries start front now
    one : ServesEnding Answers Carries now ending new

  last_of : {all : List Ending} {start new : Desk} → ServesEndings Answers Carries start all new → (front : List Ending) (ending : Ending)
      → all ≡ front ++ ending ∷ [] → Last front ending start new
  last_of trace.no_ending front ending is = absurd (omega (arith, ap length is, length-append front (ending ∷ [])))
  last_of (trace.one_ending all other d d' before one) front ending is =
      let same = same_from_push all front other ending is in
      record { now = d; before = rw (← same.0) before; one = rw (← same.1) one }

  one_first : {start now : Desk} {ending : Ending} {rest : List Ending} {new : Desk} → ServesEnding Answers Carries start ending now
      → ServesEndings Answers Carries now rest new → ServesEndings Answers Carries start (ending ∷ rest) new
  one_first {start} {now} {ending} one trace.no_ending = trace.one_ending [] ending start now trace.no_ending one
  one_first {ending = ending} one (trace.one_ending rest other d d' before last) = trace.one_ending (ending ∷ rest) other d d' (one_first one before) last

  in_parts : (front rest : List Ending) (start new : Desk) → ServesEndings Answers Carries start (front ++ rest) new → Parts front rest start new
  in_parts front [] start new all = record { now = new; before = rw (append-nil front) at all; after = trace.no_ending }
  in_parts front (ending ∷ rest) start new all =
      let more = in_parts (front ++ ending ∷ []) rest start new (rw (append_assoc front (ending ∷ []) rest) all) in
      let last = last_of more.before front ending refl in
      record { now = last.now; before = last.before; after = one_first last.one more.after }

  module _ {Clock : Type 0} (Gives : GivesMoment Clock) where
    connections_served : {all : List Ending} {start now : Desk} {clock : Clock} {list : List OfficeConnection} {clock' : Clock} {new : Desk}
        → ServesEndings Answers Carries start all now → AreCarriedOut Gives Carries clock now list clock' new
        → ServesEndings Answers Carries start (all ++ map from_office list) new
    connections_served {all} so_far trace.no_connection = rw (append-nil all) so_far
    connections_served {all} {start} so_far (trace.one_connection list one c d c' d' before gives carries) =
        rw (map-append from_office list (one ∷ []), ← append_assoc all (map from_office list) (from_office one ∷ []))
        (trace.one_ending (all ++ map from_office list) (from_office one) d d' (connections_served so_far before) carries)

    module _ (Ended : Ends) where
      alone : (all : List Ending) {start now : Desk} (meanwhile : List OfficeConnection) (ending : Ending) (new : Desk) → meanwhile ≡ []
          → ServesEndings Answers Carries start all now → ServesEnding Answers Carries now ending new
          → ServesEndings Answers Carries start ((all ++ map from_office meanwhile) ++ ending ∷ []) new
      alone all {now = now} meanwhile ending new empty so_far one = rw (empty, append-nil all) (trace.one_ending all ending now new so_far one)

      turn_served : (all : List Ending) {start : Desk} (meanwhile : List OfficeConnection) (ending : Ending) (clock : Clock) (now : Desk) (f : ℕ)
          (clock' : Clock) (new : Desk) (f' : ℕ) → ServesEndings Answers Carries start all now
          → TakesTurn Gives Answers Carries Ended clock now f meanwhile ending clock' new f'
          → ServesEndings Answers Carries start ((all ++ map from_office meanwhile) ++ ending ∷ []) new
      turn_served all meanwhile nobody clock now f clock' new f' so_far (empty, counted, ticks, kept) = alone all meanwhile nobody new empty so_far kept
      turn_served all meanwhile overrun clock now f clock' new f' so_far (empty, counted, ticks, kept) = alone all meanwhile overrun new empty so_far kept
      turn_served all meanwhile unanswered clock now f clock' new f' so_far never = absurd never
      turn_served all meanwhile (from_office one) clock now f clock' new f' so_far (empty, counted, gives, carries) =
          alone all meanwhile (from_office one) new empty so_far carries
      turn_served all meanwhile (from_client exchange) clock now f clock' new f' so_far (counted, client) =
          let before = connections_served so_far client.carried_out in
          trace.one_ending (all ++ map from_office meanwhile) (from_client exchange) client.left new before client.replies

      turns_served : {clock : Clock} {start : Desk} {f : ℕ} {all : Trace} {clock' : Clock} {new : Desk} {f' : ℕ}
          → IsTraced Gives Answers Carries Ended clock start f all clock' new f' → ServesEndings Answers Carries start (happened all) new
      turns_served trace.no_turn = trace.no_ending
      turns_served {start = start} (trace.one_turn all turn c d f1 c' d' f' before due takes) =
          rw (happened_more all turn) (turn_served (happened all) turn.meanwhile turn.ending c d f1 c' d' f' (turns_served before) takes)

      trace_served : {all : Trace} {count : ℕ} {clock : Clock} (start : Desk) {f : ℕ} (outcome : Result Unit ClockOutOfRange) {clock' : Clock} (new : Desk)
          {f' : ℕ} → ServesTrace Gives Answers Carries Ended all count clock start f outcome clock' new f'
          → ServesEndings Answers Carries start (happened all) new
      trace_served start (Ok ended) new it = rw it.ends.2 (turns_served it.before)
      trace_served start (Err ended) new it =
          rw (it.ends.2, happened_more it.served (turn_alone unanswered), append-nil (happened it.served))
          (trace.one_ending (happened it.served) unanswered new new (turns_served it.before) refl)

module _ {S : Type 0} (ghosts : StoreGhosts S) (Given : Option Timestamp → Type 0) where
  abbrev Seen : Type 1
  Seen = Club → List machine.Event → List DeskResponse → Type 0

  -- The store took one thing that happened: as no event, or as one event of the machine.
  data Moves (Is : Seen) (old new : S) : Type 0 where
    quiet : ((club : Club) (others : List Club) → ghosts.represents old club others → Is club [] [] × ghosts.represents new club others) → Moves Is old new
    stepped : (event : machine.Event) (one : DeskResponse) → ((club : Club) → Is club (event ∷ []) (one ∷ [])) → IsEvent event
        → Steps ghosts old new event one → Moves Is old new

  record Handles (Is : Seen) (old new : S) : Type 0 where
    was_clean : ghosts.is_clean new → ghosts.is_clean old
    moves : ghosts.is_clean new → Moves Is old new

  still : {Is : Seen} {old new : S} → ((club : Club) → Is club [] []) → new ≡ old → Handles Is old new
  still is same = record {
    was_clean = λ clean. rw (← same) clean;
    moves = λ clean. quiet (λ club others represents. (is club, rw same represents));
  }

  seen_as : {Is Wanted : Seen} {old new : S} → ((club : Club) (one : List machine.Event) (its : List DeskResponse) → Is club one its → Wanted club one its)
      → Moves Is old new → Moves Wanted old new
  seen_as wants (quiet keeps) = quiet (λ club others represents. let it = keeps club others represents in (wants club [] [] it.0, it.1))
  seen_as wants (stepped event one is within steps) = stepped event one (λ club. wants club (event ∷ []) (one ∷ []) (is club)) within steps

  handled_as : {Is Wanted : Seen} {old new : S} → ((club : Club) (one : List machine.Event) (its : List DeskResponse) → Is club one its → Wanted club one its)
      → Handles Is old new → Handles Wanted old new
  handled_as wants handles = record { was_clean = handles.was_clean; moves = λ clean. seen_as wants (handles.moves clean) }

  request : (moment : ℕ) (bytes : List ℕ) (reply : Reply) (old new : S) → IsReplied (AnswersBy ghosts moment) bytes old reply new
      → Handles (λ club. IsEventOfRequest moment bytes reply) old new
  request moment bytes reply old new (replied.parser_refusal refusal reads is kept) = still (λ club. spec.no_request refusal reads is) kept
  request moment bytes reply old new (replied.out_of_memory holds is kept) = still (λ club. spec.no_memory holds is) kept
  request moment bytes reply old new (replied.desk_reply decoded reads answers) = record {
    was_clean = answers.was_clean;
    moves = λ clean.
        let seen = answers.steps clean in
        stepped (Asked seen.0 moment) (ToMember reply) (λ club. spec.request decoded seen.0 reads seen.1) (rw seen.1.1 answers.within)
        (asked_steps ghosts old new seen.0 moment reply seen.2);
  }

  given : (task : Task) (command : Command) {bytes : List ℕ} {IsText : List ℕ → Type 0} {told : Result (List ℕ) Fault} {answer : Answer} {old new : S}
      → AskForTask bytes task → spec.command_of task ≡ Some command → AnswersWith told answer → IsAnswered ghosts command IsText told old new
      → Handles (λ club. IsEventOfCommand Given club bytes answer) old new
  given task command {answer = answer} asks is answers (does.out_of_memory lacks kept) =
      still (λ club. spec.no_memory (lacks_memory answer (rw lacks at answers))) kept
  given task command {told = told} asks is answers (does.command_given text has gives) = record {
    was_clean = gives.was_clean;
    moves = λ clean. stepped (Commanded command) (ToOffice gives.reply)
        (λ club. spec.given task command text told gives.reply asks is gives.answers answers) gives.within (gives.steps clean);
  }

  shown_itself : (Shows : Club → Result (String Global) DeskFault → Type 0) (told : Result (List ℕ) Fault) {old new : S} → DeskShows ghosts Shows told old new
      → ghosts.is_clean new → (club : Club) (others : List Club) → ghosts.represents old club others → DeskShows itself Shows told club club
  shown_itself Shows told shown clean club others represents = record {
    was_clean = λ always. tt;
    kept = λ always now rest is. is;
    returned = shown.returned;
    shows = λ always now rest is. rw (← is) (shown.shows clean club others represents);
    is = shown.is;
  }

  done : (task : Task) {bytes : List ℕ} (told : Result (List ℕ) Fault) {answer : Answer} {old new : S}
      → AskForTask bytes task → AnswersWith told answer → Does ghosts Given task told old new
      → Handles (λ club. IsEventOfCommand Given club bytes answer) old new
  done (Give given_command) told asks answers does = given _ _ asks refl answers does
  done (Key command root) told asks answers does = given _ _ asks refl answers does
  done (ShowAccount key clock) told asks answers (None, shows, stopped) =
      still (λ club. spec.shown (ShowAccount key clock) told asks refl (None, shows, (stopped.0, refl)) answers) stopped.1
  done (ShowAccount key clock) told asks answers (Some moment, shows, shown) = record {
    was_clean = shown.was_clean;
    moves = λ clean. quiet (λ club others represents. (
      spec.shown (ShowAccount key clock) told asks refl (Some moment, shows, shown_itself _ told shown clean club others represents) answers,
      shown.kept clean club others represents,
    ));
  }
  done task told asks answers shown = record {
    was_clean = shown.was_clean;
    moves = λ clean. quiet (λ club others represents. (
      spec.shown _ told asks refl (shown_itself _ told shown clean club others represents) answers,
      shown.kept clean club others represents,
    ));
  }

  command : (bytes : List ℕ) (answer : Answer) {old new : S} → CarriesOutBy ghosts Given bytes old answer new
      → Handles (λ club. IsEventOfCommand Given club bytes answer) old new
  command bytes answer (carried.command_done root arguments told is (carried.task_done file task asks does) answers logged) =
      done task told (spec.in_arguments root arguments file task is asks) answers does
  command bytes answer (carried.command_done root arguments told is (carried.key_done file key given asks root_is does) answers logged) =
      done (Key key given) told (spec.with_root root arguments file key given is asks root_is) answers does
  command bytes answer (carried.command_done root arguments told is (carried.root_refused file key asks lacks refused kept) answers logged) =
      still (λ club. spec.no_task (spec.no_root root arguments file key is asks lacks (rw refused at answers))) kept
  command bytes answer (carried.command_done root arguments told is (carried.arguments_refused fault reads refused kept) answers logged) =
      still (λ club. spec.no_task (spec.refused root arguments fault is reads (rw refused at answers))) kept
  command bytes answer (carried.no_command bad unnamed kept) = still (λ club. spec.no_task (spec.no_command bad unnamed.0)) kept
  command bytes answer (carried.not_office root arguments is other unnamed kept) =
      still (λ club. spec.no_task (spec.other root arguments is other unnamed.0)) kept
  command bytes answer (carried.no_memory unnamed kept) = still (λ club. spec.no_memory unnamed.0) kept

  client : (exchange : ClientExchange) (reply : Option Reply) (old new : S) → exchange.reply ≡ reply
      → RepliesIfRead (AnswersBy ghosts exchange.moment) exchange.bytes old reply new
      → Handles (λ club. IsEventOfEnding Given club (from_client exchange)) old new
  client exchange None old new e kept = still (λ club. rw e (refl, refl)) kept
  client exchange (Some reply) old new e gave = handled_as (λ club events its is. rw e is) (request exchange.moment exchange.bytes reply old new gave)

  connection : (one : OfficeConnection) (came : Option AnsweredCommand) (old new : S) → one.command ≡ came
      → CarriesOutIfCame (CarriesOutBy ghosts Given) old came new → Handles (λ club. IsEventOfEnding Given club (from_office one)) old new
  connection one None old new e kept = still (λ club. rw e (refl, refl)) kept
  connection one (Some done) old new e carries = handled_as (λ club events its is. rw e is) (command done.bytes done.answer carries)

  handled : (ending : Ending) (old new : S) → ServesEnding (AnswersBy ghosts) (CarriesOutBy ghosts Given) old ending new
      → Handles (λ club. IsEventOfEnding Given club ending) old new
  handled nobody old new kept = still (λ club. (refl, refl)) kept
  handled overrun old new kept = still (λ club. (refl, refl)) kept
  handled unanswered old new kept = still (λ club. (refl, refl)) kept
  handled (from_office one) old new carries = connection one one.command old new refl carries
  handled (from_client exchange) old new replies = client exchange exchange.reply old new refl replies

  -- All that happened is a run of the club's state machine that starts with `club`, and the store
  -- represents the club after the run.
  record IsFollowedTo (all : List Ending) (new : S) (club : Club) (others : List Club) : Type 0 where
    events : List machine.Event
    responses : List DeskResponse
    are_events : AreEventsOfEndings Given club all events responses
    within : All IsEvent events
    beside : length responses ≡ length events
    followed : IsFollowed ghosts new club others events responses

  -- The store after all that happened so far.
  record SoFar (all : List Ending) (start now : S) : Type 0 where
    was_clean : ghosts.is_clean now → ghosts.is_clean start
    follows : ghosts.is_clean now → (club : Club) (others : List Club) → ghosts.represents start club others → IsFollowedTo all now club others

  module _ (none : FollowsNoEvent ghosts) (one_more : FollowsOneMore ghosts) where
    moved : {all : List Ending} (ending : Ending) (now new : S) (club : Club) (others : List Club) → IsFollowedTo all now club others
        → Moves (λ club. IsEventOfEnding Given club ending) now new → IsFollowedTo (all ++ ending ∷ []) new club others
    moved {all} ending now new club others before (quiet keeps) =
        let f = before.followed in
        let kept = keeps f.last f.left f.represents in
        record {
          events = before.events ++ [];
          responses = before.responses ++ [];
          are_events = spec.more_events all before.events before.responses ending [] [] f.last before.are_events f.ran kept.0;
          within = rw (append-nil before.events) before.within;
          beside = rw (append-nil before.events, append-nil before.responses) before.beside;
          followed = rw (append-nil before.events, append-nil before.responses)
              (record { last = f.last; ran = f.ran; left = f.left; represents = kept.1; each = f.each });
        }
    moved {all} ending now new club others before (stepped event one is within steps) = record {
      events = before.events ++ event ∷ [];
      responses = before.responses ++ one ∷ [];
      are_events = spec.more_events all before.events before.responses ending (event ∷ []) (one ∷ []) before.followed.last before.are_events
          before.followed.ran (is before.followed.last);
      within = All-append IsEvent before.events (event ∷ []) before.within (All-cons IsEvent event [] within (All-nil IsEvent));
      beside = rw (length-append before.events (event ∷ []), length-append before.responses (one ∷ []), before.beside) refl;
      followed = one_more now new club others before.events before.responses event one before.beside before.followed steps;
    }

    so_far : {start : S} {all : List Ending} {new : S} → ServesEndings (AnswersBy ghosts) (CarriesOutBy ghosts Given) start all new → SoFar all start new
    so_far {start = start} trace.no_ending = record {
      was_clean = λ clean. clean;
      follows = λ clean club others represents. record {
        events = [];
        responses = [];
        are_events = spec.no_event;
        within = All-nil IsEvent;
        beside = refl;
        followed = none start club others represents;
      };
    }
    so_far {start = start} (trace.one_ending all ending d d' before one) =
        let first = so_far before in
        let last = handled ending d d' one in
        record {
          was_clean = λ clean. first.was_clean (last.was_clean clean);
          follows = λ clean club others represents.
              moved ending d d' club others (first.follows (last.was_clean clean) club others represents) (last.moves clean);
        }

    module _ (laws : FollowedRunsAreLawful ghosts) where
      lawful : {all : List Ending} {start new : S} → ServesEndings (AnswersBy ghosts) (CarriesOutBy ghosts Given) start all new
          → ghosts.is_clean new → (club : Club) (others : List Club) → IsSound club → ghosts.represents start club others
          → IsLawfulTrace ghosts Given all new club others
      lawful {new = new} serves clean club others sound represents =
          let it = (so_far serves).follows clean club others represents in
          let law = laws new club others it.events it.responses sound it.within it.followed in
          record { events = it.events; responses = it.responses; are_events = it.are_events; lawful = law.0; leaves = law.1 }

module _ {S Machine : Type 0} (ghosts : StoreGhosts S) (Shows : Machine → Option Timestamp → Type 0) (machine : Machine) (service : Service) where
  server_serves : (all : Trace) (Noted : List Turn → Type 0) (result : Result Unit Fault) (store left : S)
      → RunsServer Shows machine (AnswersBy ghosts) (CarriesOutBy ghosts (Shows machine)) service all store left Noted result
      → ServesEndings (AnswersBy ghosts) (CarriesOutBy ghosts (Shows machine)) store (happened all) left
  server_serves all Noted result store left (run.listened outcome last failures is it noted) =
      trace_served (AnswersBy ghosts) (CarriesOutBy ghosts (Shows machine)) (showing Shows) run.over_socket store outcome left it
  server_serves all Noted result store left (run.not_listened fault empty kept nothing) = rw (empty, kept) trace.no_ending

  pub follows_machine : (all : Trace) (Noted : List Turn → Type 0) (result : Result Unit Fault) (store left : S)
      → FollowsNoEvent ghosts → FollowsOneMore ghosts → FollowedRunsAreLawful ghosts
      → ((club : Club) (others : List Club) → ghosts.represents store club others → All IsSound (club ∷ others))
      → RunsServer Shows machine (AnswersBy ghosts) (CarriesOutBy ghosts (Shows machine)) service all store left Noted result
      → FollowsMachine ghosts (Shows machine) all store left
  follows_machine all Noted result store left none one_more laws sounds runs clean club others represents =
      let serves = server_serves all Noted result store left runs in
      let sound = All-head IsSound club others (sounds club others represents) in
      let Answers = AnswersBy ghosts in
      let Carries = CarriesOutBy ghosts (Shows machine) in
      record {
        whole = lawful ghosts (Shows machine) none one_more laws serves clean club others sound represents;
        at_each_point = λ front rest is.
            let parts : Parts Answers Carries front rest store left = in_parts Answers Carries front rest store left
            (subst (λ (endings : List Ending). ServesEndings Answers Carries store endings left) is serves) in
            let was_clean = (so_far ghosts (Shows machine) none one_more parts.after).was_clean clean in
            record {
              now = parts.now;
              before = parts.before;
              after = parts.after;
              lawful = lawful ghosts (Shows machine) none one_more laws parts.before was_clean club others sound represents;
            };
      }
