-- Lemmas for comparing the servers of two desks, or the servers over two kinds of connections.
-- Further lemmas reduce a server over a store and a clock to a server over the store, and serve the
-- proof of `run`.
use Rattle.club_http.specs.Exchange as replied
use Rattle.clubdesk_commands.specs.Run as run
use Rattle.desk_server.specs.Trace as trace
use Rattle.club_core.specs.declared.store.StoreFault.TheVariants as store
use Rattle.std.proofs.Common.{◌≡◌, ℕ, List, Option, Some, None, Result, Ok, Err, refl, ◌∙◌, arith, ◌∷◌, suc, zero, ◌<◌, [], get_or, length, map, option_copied}
use Rattle.std.{proofs.{Common.{option_map, slice_get, string_bytes, ap, sym, inr, rules}, lemmas.Option.{slice_get-map, slice_get_past}}, specs.Borrow.Bor}
use Rattle.std.specs.{Prelude.String, Slice.IsItemAt}
use Rattle.clap.specs.Words.{Text}
use Rattle.club_clock.specs.Moments.{GivesMoment, showing}
use Rattle.club_core.specs.{Store.StoreGhosts, declared.{reply.Reply.Reply, request.Request.Request, store.StoreFault.StoreFault}}
use Rattle.club_http.specs.{Exchange.{AnswerRelation, IsReplied}, declared.fault.AnswerFault.AnswerFault}
use Rattle.clubdesk_arguments.specs.{Arguments.{AskFor, ReadsArguments}, Fault.fault_of_opening, Values.JobModel, declared.fault.Fault.Fault}
use Rattle.clubdesk_arguments.specs.declared.task.{Service.Service, Work.Work}
use Rattle.clubdesk_commands.specs.{OfficeDesk.{answers_with_clock, carries_out_with_clock}, Output.{EndsWork, Stream}, Run.{RunsServer, over_socket}}
use Rattle.clubdesk_commands.specs.Run.{Announces, Serves}
use Rattle.command_line.specs.declared.job.Asked.{Asked as AskedJob, TheVariants.Perform}
use Rattle.desk_server.specs.Trace.{AnsweredCommand, AreCarriedOut, CarriesOutIfCame, Ending, Ending.{nobody, overrun, unanswered, from_office, from_client}}
use Rattle.desk_server.specs.Trace.{IsTraced, OfficeConnection, RepliesIfRead, ServesTrace, TakesTurn, Trace}
use Rattle.desk_server.specs.Served.{CommandRelation, Ends, Turn}
use Rattle.desk_server.specs.declared.databases.{Databases.Ghosts as DatabasesWords, Visit.Ghosts as VisitWords}
use Rattle.desk_server.specs.declared.office.Answer.{Answer}
use Rattle.desk_server.specs.declared.serve.ClockOutOfRange.{ClockOutOfRange}
use Rattle.jiff_core.specs.declared.timestamp.Timestamp.{Timestamp}
use Rattle.serde_json.specs.{Data.{Data, items_depth, string}, Find.as_str, View.{items_of, view}, declared.value.Value.Value}

module _ {D E : Type 0} (Represents : D → E → Type 0) where
  -- `Gives` relates each state of the second desk that the old desk represents to a state that the
  -- new desk represents.
  pub record Simulates (old new : D) (Gives : E → E → Type 0) : Type 0 where
    pub follows : (e : E) → Represents old e → (next : E) × Represents new next × Gives e next

  same : {old new : D} {Gives : E → E → Type 0} → new ≡ old → ((e : E) → Gives e e) → Simulates old new Gives
  same is gives = record { follows = λ e represents. (e, rw is represents, gives e) }

  so : {old new : D} {Gives Wanted : E → E → Type 0} → Simulates old new Gives → ((e next : E) → Gives e next → Wanted e next) → Simulates old new Wanted
  so simulates wants = record { follows = λ e represents. let next = simulates.follows e represents in (next.0, next.1, wants _ _ next.2) }

  after : {old mid new : D} {First Second Wanted : E → E → Type 0} → Simulates old mid First → Simulates mid new Second
      → ((e now next : E) → First e now → Second now next → Wanted e next) → Simulates old new Wanted
  after first second wants = record {
    follows = λ e represents.
        let now = first.follows e represents in
        let next = second.follows now.0 now.1 in
        (next.0, next.1, wants _ _ _ now.2 next.2);
  }

  module _ (Answers : ℕ → AnswerRelation D) (Answers' : ℕ → AnswerRelation E) (Carries : CommandRelation D) (Carries' : CommandRelation E)
      (answered : (moment : ℕ) (text : List ℕ) (request : Request) (old : D) (reply : Reply) (new : D) → Answers moment text request old reply new
      → Simulates old new (λ e next. Answers' moment text request e reply next))
      (commanded : (bytes : List ℕ) (old : D) (answer : Answer) (new : D) → Carries bytes old answer new
      → Simulates old new (λ e next. Carries' bytes e answer next))
    where
      replies : (moment : ℕ) (bytes : List ℕ) {old new : D} (reply : Reply) → IsReplied (Answers moment) bytes old reply new
          → Simulates old new (λ e next. IsReplied (Answers' moment) bytes e reply next)
      replies moment bytes reply (replied.parser_refusal refusal reads is kept) = same kept (λ e. replied.parser_refusal refusal reads is refl)
      replies moment bytes reply (replied.desk_reply decoded reads answers) =
          so (answered moment decoded.pass decoded.request _ reply _ answers) (λ e next answers. replied.desk_reply decoded reads answers)
      replies moment bytes reply (replied.out_of_memory holds is kept) = same kept (λ e. replied.out_of_memory holds is refl)

      gave : (moment : ℕ) (bytes : List ℕ) {old new : D} (reply : Option Reply) → RepliesIfRead (Answers moment) bytes old reply new
          → Simulates old new (λ e next. RepliesIfRead (Answers' moment) bytes e reply next)
      gave moment bytes None kept = same kept (λ e. refl)
      gave moment bytes (Some reply) is = replies moment bytes reply is

      carried_out : (command : Option AnsweredCommand) {old new : D} → CarriesOutIfCame Carries old command new
          → Simulates old new (λ e next. CarriesOutIfCame Carries' e command next)
      carried_out None kept = same kept (λ e. refl)
      carried_out (Some command) carries = commanded command.bytes _ command.answer _ carries

      module _ {Clock : Type 0} (Given : GivesMoment Clock) where
        are_carried_out : {clock : Clock} {old : D} {list : List OfficeConnection} {clock' : Clock} {new : D}
            → AreCarriedOut Given Carries clock old list clock' new → Simulates old new (λ e next. AreCarriedOut Given Carries' clock e list clock' next)
        are_carried_out trace.no_connection = same refl (λ e. trace.no_connection)
        are_carried_out (trace.one_connection list one c d c' new before gives is) =
            after (are_carried_out before) (carried_out one.command is)
            (λ e now next before is. trace.one_connection list one c now c' next before gives is)

        module _ (Ended Ended' : Ends)
            (ends : (bytes written : List ℕ) (outcome : Result Reply AnswerFault) → Ended bytes written outcome → Ended' bytes written outcome)
          where
            one : (clock : Clock) (old : D) (f : ℕ) (meanwhile : List OfficeConnection) (ending : Ending) (clock' : Clock) (new : D) (f' : ℕ)
                → TakesTurn Given Answers Carries Ended clock old f meanwhile ending clock' new f'
                → Simulates old new (λ e next. TakesTurn Given Answers' Carries' Ended' clock e f meanwhile ending clock' next f')
            one clock old f meanwhile nobody clock' new f' (none, counted, still, kept) = same kept (λ e. (none, counted, still, refl))
            one clock old f meanwhile overrun clock' new f' (none, counted, still, kept) = same kept (λ e. (none, counted, still, refl))
            one clock old f meanwhile (from_office came) clock' new f' (none, counted, gives, is) =
                so (carried_out came.command is) (λ e next is. (none, counted, gives, is))
            one clock old f meanwhile unanswered clock' new f' never = absurd never
            one clock old f meanwhile (from_client exchange) clock' new f' (counted, client) =
                after (are_carried_out client.carried_out) (gave exchange.moment exchange.bytes exchange.reply client.replies)
                (λ e now next carried_out replies. (
                  counted,
                  record {
                    given = client.given;
                    left = now;
                    gives = client.gives;
                    carried_out = carried_out;
                    replies = replies;
                    writes = client.writes;
                    ended = ends exchange.bytes exchange.written exchange.outcome client.ended;
                  },
                ))

            all : {clock : Clock} {old : D} {f : ℕ} {turns : Trace} {clock' : Clock} {new : D} {f' : ℕ}
                → IsTraced Given Answers Carries Ended clock old f turns clock' new f'
                → Simulates old new (λ e next. IsTraced Given Answers' Carries' Ended' clock e f turns clock' next f')
            all trace.no_turn = same refl (λ e. trace.no_turn)
            all (trace.one_turn turns turn c d f1 c' new f' before due it) =
                after (all before) (one c d f1 turn.meanwhile turn.ending c' new f' it)
                (λ e now next before it. trace.one_turn turns turn c now f1 c' next f' before due it)

            serves : {turns : Trace} {count : ℕ} {clock : Clock} {old : D} {f : ℕ} {outcome : Result Unit ClockOutOfRange} {clock' : Clock} {new : D} {f' : ℕ}
                → ServesTrace Given Answers Carries Ended turns count clock old f outcome clock' new f'
                → Simulates old new (λ e next. ServesTrace Given Answers' Carries' Ended' turns count clock e f outcome clock' next f')
            serves it = so (all it.before) (λ e next before. record { served = it.served; last = it.last; before = before; ends = it.ends })

      pub run_alike : {Machine : Type 0} (Shows : Machine → Option Timestamp → Type 0) (machine : Machine) (service : Service) (turns : Trace)
          (Noted : List Turn → Type 0) {old new : D} (result : Result Unit Fault) → RunsServer Shows machine Answers Carries service turns old new Noted result
          → Simulates old new (λ e next. RunsServer Shows machine Answers' Carries' service turns e next Noted result)
      run_alike Shows machine service turns Noted result (run.listened outcome last failures is it noted) =
          so (serves (showing Shows) over_socket over_socket (λ bytes written outcome ended. ended) it)
          (λ e next it. run.listened outcome last failures is it noted)
      run_alike Shows machine service turns Noted result (run.not_listened fault none kept nothing) = same kept (λ e. run.not_listened fault none refl nothing)

by_itself : {Desk : Type 0} {old new : Desk} {Gives : Desk → Desk → Type 0} → Gives old new → Simulates (λ desk e. desk ≡ e) old new Gives
by_itself {new} gives = record { follows = λ e is. (new, refl, rw (← is) gives) }

-- If every exchange over some connections may also be an exchange over other connections, a server
-- over the former is also a server over the latter.
pub over_others : {Clock Desk : Type 0} {Given : GivesMoment Clock} {Answers : ℕ → AnswerRelation Desk} {Carries : CommandRelation Desk} {Ended Ended' : Ends}
    {all : Trace} {count : ℕ} {clock : Clock} {desk : Desk} {f : ℕ} {outcome : Result Unit ClockOutOfRange} {clock' : Clock} {desk' : Desk} {f' : ℕ}
    → ((bytes written : List ℕ) (outcome : Result Reply AnswerFault) → Ended bytes written outcome → Ended' bytes written outcome)
    → ServesTrace Given Answers Carries Ended all count clock desk f outcome clock' desk' f'
    → ServesTrace Given Answers Carries Ended' all count clock desk f outcome clock' desk' f'
over_others {Given} {Answers} {Carries} {Ended} {Ended'} {desk = desk} ends it =
    let over = (serves _ Answers Answers Carries Carries (λ moment text request old reply new answers. by_itself answers)
    (λ bytes old answer new carries. by_itself carries) Given Ended Ended' ends it).follows desk refl in
    rw over.1 over.2

module _ {S Machine : Type 0} (Shows : Machine → Option Timestamp → Type 0) (machine : Machine) (Answers : ℕ → AnswerRelation S)
    (Carries : (Option Timestamp → Type 0) → CommandRelation S)
  where
    -- The desk has this store, and its clock is `machine`.
    abbrev Has : S × Machine → S → Type 0
    Has desk store = (desk.0 ≡ store) × (desk.1 ≡ machine)

    answered : (moment : ℕ) (text : List ℕ) (request : Request) (old : S × Machine) (reply : Reply) (new : S × Machine)
        → answers_with_clock Answers moment text request old reply new → Simulates Has old new (λ store next. Answers moment text request store reply next)
    answered moment text request old reply new (answers, still) =
        record { follows = λ store has. (new.0, (refl, still ∙ has.1), rw has.0 at answers) }

    commanded : (bytes : List ℕ) (old : S × Machine) (answer : Answer) (new : S × Machine)
        → carries_out_with_clock Shows Carries bytes old answer new
        → Simulates Has old new (λ store next. Carries (Shows machine) bytes store answer next)
    commanded bytes old answer new (carries, still) =
        record { follows = λ store has. (new.0, (refl, still ∙ has.1), rw (has.0, has.1) at carries) }

    pub over_the_store : (service : Service) (all : Trace) (store left : S) (still : Machine) (Noted : List Turn → Type 0) (result : Result Unit Fault)
        → RunsServer Shows machine (answers_with_clock Answers) (carries_out_with_clock Shows Carries) service all (store, machine) (left, still) Noted result
        → RunsServer Shows machine Answers (Carries (Shows machine)) service all store left Noted result
    over_the_store service all store left still Noted result runs =
        let alike = run_alike _ _ Answers _ (Carries (Shows machine)) answered commanded Shows machine service all Noted result runs in
        let it = alike.follows store (refl, refl) in
        rw it.1.0 it.2

pub no_depth : (texts : List Text) → items_depth (items_of (map string texts)) ≡ 0
no_depth [] = refl
no_depth (text ∷ texts) = rw (no_depth texts) refl

pub same_items : (xs ys : List Data) → items_of xs ≡ items_of ys → xs ≡ ys
same_items (x ∷ xs) (y ∷ ys) e = let rest : xs ≡ ys = same_items xs ys (cc) in cc
same_items [] [] e = refl
same_items _ _ e = cc

-- If one of the values isn't a text, the values aren't all texts.
pub not_texts : (values : List Value) (i : ℕ) (value : Value) → i < length values → value ≡ get_or values i value → as_str (view value) ≡ None
    → (texts : List Text) → map view values ≡ map string texts → ⊥
not_texts [] i value below is none texts e = omega arith
not_texts (x ∷ values) i value below is none [] e = cc
not_texts (x ∷ values) zero value below is none (text ∷ texts) e = let same : view value ≡ string text = cc in grind arith
not_texts (x ∷ values) (suc i) value below is none (text ∷ texts) e = not_texts values i value (omega arith) is none texts (cc)

second : {X : Type 0} (xs : List X) (lent : Option (Bor X)) → IsItemAt xs 1 lent → option_copied lent ≡ slice_get xs 1
second xs None at = sym (slice_get_past xs 1 at.3)
second (a ∷ b ∷ xs) (Some x) at = ap Some at.1
second _ (Some x) at = absurd (omega (arith, at.3.0))

pub named : {Z : Type 0} (arguments : List (String Z)) (name : Option (Bor (String Z))) → IsItemAt arguments 1 name
    → option_map string_bytes (option_copied name) ≡ slice_get (map string_bytes arguments) 1
named arguments name at = ap (λ found. option_map string_bytes found) (second arguments name at) ∙ sym (slice_get-map string_bytes arguments 1)

pub asks_for : {X : Type 0} (text : X → Text) {given arguments : List X} {read : AskedJob JobModel} {job whole : JobModel} {work : Work} → given ≡ arguments
    → ReadsArguments (map text given) (Ok read) → read ≡ Perform whole → job ≡ whole → job.work ≡ work → AskFor (map text arguments) job.file work
asks_for text same reads is as_whole asked = rw (← same, ← asked, as_whole) (rw is at reads)

pub not_opened : {Unwritten : Type 0} {result : Result Unit Fault} (fault : StoreFault) → result ≡ Err (fault_of_opening fault) → Unwritten
    → EndsWork Unwritten result
not_opened store.Memory is kept = rw is (tt, inr (inr kept))
not_opened store.Storage is kept = rw is (tt, inr (inr kept))

announces_well : (port : ℕ) (written : Stream) (result : Result Unit Fault) → Announces port written result → EndsWork written.no_change result
announces_well port written (Ok done) wrote = tt
announces_well port written (Err fault) wrote = search rules

pub serves_well : {D S R V Machine : Type 0} {databases : DatabasesWords D S R V} {visits : VisitWords V} {ghosts : StoreGhosts S}
    {Shows : Machine → Option Timestamp → Type 0} {machine : Machine} {file : Text} {old new : D} {written : Stream} {result : Result Unit Fault}
    {service : Service} {Noted : List Turn → Type 0}
    → Serves databases visits ghosts Shows machine file service old new written Noted result → EndsWork written.no_change result
serves_well (run.not_opened fault opens is kept nothing) = not_opened fault is kept
serves_well (run.no_door fault store between opens closes is kept nothing) = not_opened fault is kept
serves_well (run.server_done store left between all opens serves follows announces closes) = announces_well _ _ _ announces
