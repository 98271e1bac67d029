-- Lemmas about the calls of an accepted connection, and about the commands that a server carries
-- out while it waits for a client's request.
use Rattle.desk_server.specs.Log as log
use Rattle.desk_server.specs.Served as served
use Rattle.club_http.specs.Calls as calls
use Rattle.desk_server.specs.Between as between
use Rattle.desk_server.specs.Trace as trace
use Rattle.std.proofs.Common.{◌∙◌, ℕ, List, Option, ap, refl, ◌<◌, ◌+◌, suc, arith, [], ◌∷◌, ◌++◌, length, take, Result, Ok, Err, ◌≡◌, append_assoc, append-nil}
use Rattle.std.proofs.{Common.{sym, ◌≤◌, length-append, inl, inr, rules, Some, None, IfSome}, KnownBytes.{Keeps-refl, Keeps-trans, Appends-trans, Appends-kept}}
use Rattle.std.proofs.{KnownBytes.Appends-nil, Math.Seq.take-append-add, lemmas.List.{map-append, take_all, take-append-le, length-take-le}}
use Rattle.std.proofs.lemmas.Option.{IfSome_then}
use Rattle.std.specs.Io.KnownBytes.{Appends, Keeps}
use Rattle.club_clock.specs.Moments.{GivesMoment}
use Rattle.club_core.specs.declared.reply.Reply.{Reply}
use Rattle.club_http.specs.{Calls.{Call, Gives, ReadsNoFurther, ArePut}, Exchange.{TakesAll, Exchanges, reader_failures, writer_failures, Receives}}
use Rattle.club_http.specs.{Exchange.{AnswerRelation, IsReplied}, declared.fault.AnswerFault.{AnswerFault, TheVariants.{Read, Write}}}
use Rattle.desk_server.specs.{Accepted.{HasMoved, HasWaited, Comes, IsEnded, IsRead, IsWritten, Talks}, Between.{CommandsAlone, AreWaits, Awaits}}
use Rattle.desk_server.specs.{Limits.{AreInterrupted, Calls}, Log.{WritesLines, AreWritten, IsTextWritten, line_text}, Served.{answer_bytes, AreNotedMeanwhile}}
use Rattle.desk_server.specs.Served.{IsBegun, Notes, Turn, events_in, AreNoted, CommandRelation, CountsOn, Ends, IsNoted}
use Rattle.desk_server.specs.{Served.{AreCommanded, Meanwhile, ExchangesBetween, IsExchanged}, Server.IsCommanded}
use Rattle.desk_server.specs.Trace.{Ending, IsDue, IsTraced, TakesTurn, Trace, TracedTurn, client_in, clients_in, noted, turn_alone, turn_of, turns_of}
use Rattle.desk_server.specs.declared.{between.Between.Between, limit.Limit.Limit, log.LogEvent.{LogEvent, TheVariants.{Absent, Overrun, Commanded}}}
use Rattle.desk_server.specs.declared.timed.Accepted.{Accepted}
use Rattle.http_response.specs.Text.{reply_text}
use borrow.Rule.Slice.PartMut.{put_mid}

module _ {S C : Type 0} where
  pub moved_more : (old mid new : Accepted S C) → HasMoved old mid → HasMoved mid new → HasMoved old new
  moved_more old mid new first second = second ∙ ap (λ (a : Accepted S C). record a { stream = new.stream }) first

  module _ (to_come taken : S → Option (List ℕ)) where
    pub waited_not : (old : Accepted S C) → HasWaited to_come taken old old
    waited_not old = record { same = refl; reads_nothing = Keeps-refl _; writes_nothing = Keeps-refl _ }

    pub waited_more : (old mid new : Accepted S C) → HasWaited to_come taken old mid → HasWaited to_come taken mid new → HasWaited to_come taken old new
    waited_more old mid new first second = record {
      same = second.same ∙ ap (λ (a : Accepted S C). record a { stream = new.stream; command_first = new.command_first }) first.same;
      reads_nothing = Keeps-trans _ _ _ first.reads_nothing second.reads_nothing;
      writes_nothing = Keeps-trans _ _ _ first.writes_nothing second.writes_nothing;
    }

module _ (status : ℕ) (text : List ℕ) where
  -- The server wrote a prefix of the answer.
  abbrev Begins : Option (List ℕ) → Option (List ℕ) → Type 0
  Begins taken taken' = (n : ℕ) × Appends taken taken' (take n (answer_bytes status text))

  pub sent_status : (t t1 t2 : Option (List ℕ)) (n : ℕ) → n < length text → Appends t t1 (status ∷ []) → Appends t1 t2 (take n text) → Begins t t2
  sent_status t t1 t2 n few first second = (
    suc n,
    rw (take-append-le n text (0 ∷ []) (omega (arith, few))) (Appends-trans t t1 t2 (status ∷ []) (take n text) first second),
  )

  pub sent_text : {A : Type 0} (t t1 t2 t3 : Option (List ℕ)) (f2 f3 : ℕ) (result : Result A ℕ) → Appends t t1 (status ∷ []) → Appends t1 t2 text
      → TakesAll t2 t3 f2 f3 (0 ∷ []) result → Begins t t3
  sent_text t t1 t2 t3 f2 f3 (Ok done) first second third =
      let all = answer_bytes status text in (
        length all,
        rw (take_all (length all) all (omega arith))
            (Appends-trans t t1 t3 (status ∷ []) (text ++ 0 ∷ []) first (Appends-trans t1 t2 t3 text (0 ∷ []) second third.0)),
      )
  sent_text t t1 t2 t3 f2 f3 (Err n) first second third = (
    suc (length text + n),
    rw (take-append-add text (0 ∷ []) n)
        (Appends-trans t t1 t3 (status ∷ []) (text ++ take n (0 ∷ [])) first (Appends-trans t1 t2 t3 text (take n (0 ∷ [])) second third.1)),
  )

events_more : (turns : List Turn) (turn : Turn) → events_in (turns ++ turn ∷ []) ≡ events_in turns ++ (turn.meanwhile ++ turn.event ∷ [])
events_more [] turn = append-nil (turn.meanwhile ++ turn.event ∷ [])
events_more (first ∷ turns) turn = rw (events_more turns turn) (sym (append_assoc (first.meanwhile ++ first.event ∷ []) _ _))

module _ {Log : Type 0} (Begins : Log → Log → Type 0) (Noted : Notes Log) (taken : Log → Option (List ℕ)) (failures : Log → ℕ)
    (keeps : (old new : Log) → Begins old new → (taken new ≡ taken old) × (failures new ≡ failures old))
    (writes : (old : Log) (event : LogEvent) (new : Log) → Noted old event new
    → (microseconds : ℕ) × IsTextWritten (taken old) (taken new) (failures old) (failures new) (line_text event microseconds)) where
  abbrev Written : Log → List LogEvent → Log → Type 0
  Written old events new = AreWritten (taken old) (failures old) events (taken new) (failures new)

  line_behind : {old l : Log} {events : List LogEvent} {event : LogEvent} {new : Log} → Written old events l → Noted l event new
      → Written old (events ++ event ∷ []) new
  line_behind {l} {events} {event} {new} before noted =
      let line = writes l event new noted in
      log.one_line events event line.0 (taken l) (failures l) (taken new) (failures new) before line.1

  begun_keeps : {old l begun : Log} {events : List LogEvent} → Begins l begun → Written old events l → Written old events begun
  begun_keeps {l} {begun} begins before = let same = keeps l begun begins in rw (same.0, same.1) before

  if_begun : {old l begun : Log} {events : List LogEvent} (event : LogEvent) → IsBegun Begins Noted l event begun → Written old events l
      → Written old events begun
  if_begun Absent same before = rw same before
  if_begun Overrun same before = rw same before
  if_begun event begins before = begun_keeps begins before

  lines_behind : {old l new : Log} {events more : List LogEvent} → Written old events l → AreNotedMeanwhile Begins Noted l more new
      → Written old (events ++ more) new
  lines_behind before served.no_note = rw append-nil before
  lines_behind {events} before (served.one_note more event l1 begun _ so_far begins noted) =
      rw (← append_assoc events more (event ∷ [])) (line_behind (begun_keeps begins (lines_behind before so_far)) noted)

  pub writes_lines : WritesLines Begins Noted taken failures
  writes_lines old _ _ served.nothing = log.no_line
  writes_lines old _ _ (served.one_noted turns turn l l' before noted) =
      rw (events_more turns turn, ← append_assoc (events_in turns) turn.meanwhile (turn.event ∷ []))
      (line_behind (lines_behind (if_begun turn.event noted.begins (writes_lines old l turns before)) noted.meanwhile) noted.notes)

clients_more : (trace : Trace) (turn : TracedTurn) → clients_in (trace ++ turn ∷ []) ≡ clients_in trace + client_in turn.ending
clients_more [] turn = omega arith
clients_more (first ∷ trace) turn = omega (arith, clients_more trace turn)

module _ {Clock Desk Source Log : Type 0} (Gives : GivesMoment Clock) (Answers : ℕ → AnswerRelation Desk) (Carries : CommandRelation Desk)
    (Ended : Ends) (waited failures : Source → ℕ) (Begins : Log → Log → Type 0) (Noted : Notes Log) where
  -- The server's trace before an iteration of the server's loop. The server has counted exactly
  -- `clients` clients for the turns of the trace. There are at least `commands` turns.
  pub record SoFar (clients commands : ℕ) (s s' : Source) (c : Clock) (d : Desk) (l : Log) (c' : Clock) (d' : Desk) (l' : Log) : Type 0 where
    pub all : Trace
    pub so_many : clients_in all ≡ clients
    pub no_fewer : commands ≤ length all
    pub traced : IsTraced Gives Answers Carries Ended c d (failures s) all c' d' (failures s')
    pub noted : AreNoted Begins Noted l (turns_of all) l'
    pub called : CountsOn (waited s) (length all) (waited s')

module _ {Clock Desk Source Log : Type 0} {Gives : GivesMoment Clock} {Answers : ℕ → AnswerRelation Desk} {Carries : CommandRelation Desk}
    {Ended : Ends} {waited failures : Source → ℕ} {Begins : Log → Log → Type 0} {Noted : Notes Log} {clients commands : ℕ} {s s1 : Source}
    {c c1 : Clock} {d d1 : Desk} {l l1 : Log}
    (first : SoFar Gives Answers Carries Ended waited failures Begins Noted clients commands s s1 c d l c1 d1 l1) where
  pub noted_more : (turn : TracedTurn) (l' : Log) → IsNoted Begins Noted l1 (turn_of turn) l' → AreNoted Begins Noted l (turns_of (first.all ++ turn ∷ [])) l'
  noted_more turn l' noted =
      rw (map-append turn_of first.all (turn ∷ [])) (served.one_noted (turns_of first.all) (turn_of turn) l1 l' first.noted noted)

  pub one_more : (turn : TracedTurn) (clients' commands' : ℕ) (s' : Source) (c' : Clock) (d' : Desk) (l' : Log)
      → clients' ≡ clients + client_in turn.ending → commands' ≤ commands + 1 → IsDue first.all turn.ending
      → TakesTurn Gives Answers Carries Ended c1 d1 (failures s1) turn.meanwhile turn.ending c' d' (failures s')
      → IsNoted Begins Noted l1 (turn_of turn) l' → CountsOn (waited s) (length first.all + 1) (waited s')
      → SoFar Gives Answers Carries Ended waited failures Begins Noted clients' commands' s s' c d l c' d' l'
  one_more turn clients' commands' s' c' d' l' so_many no_fewer due one noted called = record {
    all = first.all ++ turn ∷ [];
    so_many = omega (arith, clients_more first.all turn, first.so_many);
    no_fewer = omega (arith, length-append first.all (turn ∷ []), first.no_fewer);
    traced = trace.one_turn first.all turn c1 d1 (failures s1) c' d' (failures s') first.traced due one;
    noted = noted_more turn l' noted;
    called = rw (length-append first.all (turn ∷ [])) called;
  }

  pub one_call : (s' : Source) → CountsOn (waited s1) 1 (waited s') → CountsOn (waited s) (length first.all + 1) (waited s')
  one_call s' waits fits = let before = first.called (omega arith) in let last = waits (omega arith) in omega arith

pub noted_alone : {Log : Type 0} {Begins : Log → Log → Type 0} {Noted : Notes Log} {log log' : Log} (begun : Log) (ending : Ending)
    → IsBegun Begins Noted log (noted ending) begun → Noted begun (noted ending) log' → IsNoted Begins Noted log (turn_of (turn_alone ending)) log'
noted_alone begun ending begins notes = record { begun = begun; awaited = begun; begins = begins; meanwhile = served.no_note; notes = notes }

pub filled : (room part : List ℕ) (len n k : ℕ) → len ≤ length room → n ≤ length part → take (len + n) (put_mid len k room part) ≡ take len room ++ take n part
filled room part len n k within few =
    let front = length-take-le len room within in
    ap (λ (m : ℕ). take (m + n) (put_mid len k room part)) (sym front)
    ∙ take-append-add (take len room) _ n
    ∙ ap (λ (l : List ℕ). take len room ++ l) (take-append-le n part _ few)

-- Signals interrupted the first `n` calls, and none of these calls read or wrote a byte.
pub record Interrupted {C Stream : Type 0} (Shows : C → Option ℕ → Type 0) (Does : Calls Stream) (near far : Stream → Option (List ℕ)) (limit : Limit C)
    (first : Stream) (n : ℕ) (last : Stream) : Type 0 where
  pub repeated : AreInterrupted Shows Does limit first n last
  pub kept : Keeps (near first) (near last)
  pub still : Keeps (far first) (far last)

commanded_append : {Clock Desk : Type 0} {Given : GivesMoment Clock} {Carries : CommandRelation Desk} {c c1 : Clock} {d d1 : Desk}
    {first second : List LogEvent} {c' : Clock} {d' : Desk} → AreCommanded Given Carries c d first c1 d1 → AreCommanded Given Carries c1 d1 second c' d'
    → AreCommanded Given Carries c d (first ++ second) c' d'
commanded_append before served.no_command = rw append-nil before
commanded_append before (served.one_command second moment carried c2 d2 c' d' so_far gives is) =
    rw (← append_assoc) (served.one_command _ moment carried c2 d2 c' d' (commanded_append before so_far) gives is)

noted_append : {Log : Type 0} {Begins : Log → Log → Type 0} {Noted : Notes Log} {l l1 l' : Log} {first second : List LogEvent}
    → AreNotedMeanwhile Begins Noted l first l1 → AreNotedMeanwhile Begins Noted l1 second l' → AreNotedMeanwhile Begins Noted l (first ++ second) l'
noted_append before served.no_note = rw append-nil before
noted_append before (served.one_note second event l2 begun l' so_far begins noted) =
    rw (← append_assoc) (served.one_note _ event l2 begun l' (noted_append before so_far) begins noted)

module _ {Clock Desk Log : Type 0} (Given : GivesMoment Clock) (Carries : CommandRelation Desk) (Begins : Log → Log → Type 0) (Noted : Notes Log) where
  pub no_commands : (c : Clock) (d : Desk) (l : Log) → Meanwhile Given Carries Begins Noted c d l c d l
  no_commands c d l = record { events = []; commanded = served.no_command; noted = served.no_note }

  pub one_command_more : (c c1 c' : Clock) (d d1 d' : Desk) (l l1 l' : Log) → Meanwhile Given Carries Begins Noted c d l c1 d1 l1
      → IsCommanded Given Begins Noted Carries c1 d1 l1 c' d' l' → Meanwhile Given Carries Begins Noted c d l c' d' l'
  one_command_more c c1 c' d d1 d' l l1 l' first (moment, carried, begun, begins, noted, gives, is) = record {
    events = first.events ++ Commanded moment carried ∷ [];
    commanded = served.one_command first.events moment carried c1 d1 c' d' first.commanded gives is;
    noted = served.one_note first.events (Commanded moment carried) l1 begun l' first.noted begins noted;
  }

  module _ (R : Type 0) where
    abbrev Lent : Type 0
    Lent = Between R Clock Desk Log

    abbrev Alone : Lent → Lent → Type 0
    Alone old new = CommandsAlone Given Carries Begins Noted old new

    pub alone_none : (between : Lent) → Alone between between
    alone_none between = search (rules, no_commands)

    pub alone_more : (old mid new : Lent) → Alone old mid → Alone mid new → Alone old new
    alone_more old mid new first second = record {
      same_reader = second.same_reader ∙ first.same_reader;
      same_moments = second.same_moments ∙ first.same_moments;
      same_desk = second.same_desk ∙ first.same_desk;
      same_log = second.same_log ∙ first.same_log;
      commands = record {
        events = first.commands.events ++ second.commands.events;
        commanded = commanded_append first.commands.commanded second.commands.commanded;
        noted = noted_append first.commands.noted second.commands.noted;
      };
    }

module _ {A B : Type 0} (to : A → B) (From : Call A) (To : Call B)
    (one : (old : A) (given : Option ℕ) (room : List ℕ) (new : A) → From old given room new → To (to old) given room (to new)) where
  gives_as : (old : A) (bytes : List ℕ) (new : A) → Gives From old bytes new → Gives To (to old) bytes (to new)
  gives_as old _ _ calls.nothing = calls.nothing
  gives_as old _ new (calls.more bytes room n mid _ before not_whole some call) =
      calls.more bytes room n (to mid) (to new) (gives_as old bytes mid before) not_whole some (one mid (Some n) room new call)

  pub reads_as : (old : A) (bytes : List ℕ) (new : A) → ReadsNoFurther From old bytes new → ReadsNoFurther To (to old) bytes (to new)
  reads_as old bytes new reads = record {
    within = reads.within;
    calls = elim reads.calls [
      | inl gives ↦ inl (gives_as old bytes new gives)
      | inr ended ↦
          inr (record {
            mid = to ended.mid;
            room = ended.room;
            gave = gives_as old bytes ended.mid ended.gave;
            not_whole = ended.not_whole;
            none = elim ended.none [ inl call ↦ inl (one _ _ _ _ call) | inr call ↦ inr (one _ _ _ _ call) ];
          })
    ];
  }

module _ {A : Type 0} (Fills : Call A) (Kept : A → A → Type 0) (none : (old : A) → Kept old old)
    (both : (old mid new : A) → Kept old mid → Kept mid new → Kept old new)
    (one : (old : A) (given : Option ℕ) (room : List ℕ) (new : A) → Fills old given room new → Kept old new) where
  gives_kept : (old : A) (bytes : List ℕ) (new : A) → Gives Fills old bytes new → Kept old new
  gives_kept old _ _ calls.nothing = none old
  gives_kept old _ new (calls.more bytes room n mid _ before not_whole some call) =
      both old mid new (gives_kept old bytes mid before) (one mid (Some n) room new call)

  pub reads_kept : (old : A) (bytes : List ℕ) (new : A) → ReadsNoFurther Fills old bytes new → Kept old new
  reads_kept old bytes new reads = elim reads.calls [
    | inl gives ↦ gives_kept old bytes new gives
    | inr ended ↦
        both old ended.mid new (gives_kept old bytes ended.mid ended.gave)
        (elim ended.none [ inl call ↦ one _ _ _ _ call | inr call ↦ one _ _ _ _ call ])
  ]

pub unasked_to_all : {Desk : Type 0} (Answers : AnswerRelation Desk) (before : Option (List ℕ)) (desk : Desk)
    → IfSome before (λ all. IsExchanged Answers all desk [] (Err Read) desk)
unasked_to_all Answers None desk = tt
unasked_to_all Answers (Some all) desk = (refl, refl)

module _ {S C : Type 0} (to_come taken : S → Option (List ℕ)) (Shows : C → Option ℕ → Type 0) (Reads Writes : Calls S) where
  -- Between the states `old` and `new` of the connection, the server wrote no bytes, and the count
  -- of failed writes didn't change.
  abbrev IsSilent : Accepted S C → Accepted S C → Type 0
  IsSilent old new = Keeps (taken old.stream) (taken new.stream) × (new.write_failures ≡ old.write_failures)

  silent_not : (old : Accepted S C) → IsSilent old old
  silent_not old = (Keeps-refl _, refl)

  silent_more : (old mid new : Accepted S C) → IsSilent old mid → IsSilent mid new → IsSilent old new
  silent_more old mid new first second = (Keeps-trans _ _ _ first.0 second.0, second.1 ∙ first.1)

  waits_silent : (old new : Accepted S C) → AreWaits (HasWaited to_come taken) old new → IsSilent old new
  waits_silent old _ between.no_wait = silent_not old
  waits_silent old new (between.wait_again mid _ before wait) =
      silent_more old mid new (waits_silent old mid before) (wait.writes_nothing, ap (λ (a : Accepted S C). a.write_failures) wait.same)

  read_silent : (old : Accepted S C) (result : Option ℕ) (room : List ℕ) (new : Accepted S C)
      → Awaits (HasWaited to_come taken) (IsRead Shows Reads taken) old result room new → IsSilent old new
  read_silent old result room new call =
      silent_more old call.awaited new (waits_silent old call.awaited call.waits)
      (call.fills.writes_nothing, ap (λ (a : Accepted S C). a.write_failures) call.fills.same)

  written_still : (old new : Accepted S C) → ArePut (IsWritten Shows Writes to_come) old new → new.read_failures ≡ old.read_failures
  written_still old _ calls.not_put = refl
  written_still old new (calls.put_again result bytes mid _ before call) = ap (λ (a : Accepted S C). a.read_failures) call.same ∙ written_still old mid before

  ended_silently : (outcome : Result Reply AnswerFault) (bytes : List ℕ) (old new : Accepted S C) → IsEnded to_come taken outcome bytes old new
      → Keeps (taken old.stream) (taken new.stream) × (new.read_failures ≡ old.read_failures) × (new.write_failures ≡ old.write_failures)
  ended_silently (Ok reply) bytes old new (over, rest) =
      (rest.writes_nothing, ap (λ (a : Accepted S C). a.read_failures) rest.same, ap (λ (a : Accepted S C). a.write_failures) rest.same)
  ended_silently (Err fault) bytes old new same = rw same (Keeps-refl _, refl, refl)

  module _ {Clock Desk Log : Type 0} {Given : GivesMoment Clock} {Carries : CommandRelation Desk} {Begins : Log → Log → Type 0} {Noted : Notes Log}
      {Answers : AnswerRelation Desk} {clock clock' : Clock} {desk left desk' : Desk} {log log' : Log} {old heard sent new : Accepted S C} {bytes : List ℕ}
      (meanwhile : Meanwhile Given Carries Begins Noted clock desk log clock' left log')
      (reads : ReadsNoFurther (Awaits (HasWaited to_come taken) (IsRead Shows Reads taken)) old bytes heard)
      (puts : ArePut (IsWritten Shows Writes to_come) heard sent)
    where
      pub exchanged : (written : List ℕ) (outcome : Result Reply AnswerFault) → Comes to_come taken outcome old bytes heard
          → IsEnded to_come taken outcome bytes sent new → Appends (taken heard.stream) (taken sent.stream) written
          → heard.read_failures ≡ reader_failures old.read_failures outcome → sent.write_failures ≡ writer_failures heard.write_failures outcome
          → IsExchanged Answers bytes left written outcome desk' → IfSome (to_come old.stream) (λ all. IsExchanged Answers all left written outcome desk')
          → ExchangesBetween Given Carries Begins Noted Answers (λ accepted. to_come accepted.stream) (Talks to_come taken Shows Reads Writes)
          bytes clock desk log old outcome clock' desk' log' new
      exchanged written outcome came ended writes failed_reads failed_writes is to_all =
          let silent = reads_kept _ IsSilent silent_not silent_more read_silent old bytes heard reads in
          let last = ended_silently outcome bytes sent new ended in
          let writes = Appends-trans _ _ _ [] written (Appends-kept _ _ _ [] (Appends-nil (taken old.stream)) silent.0) writes in
          record {
            left = left;
            written = written;
            meanwhile = meanwhile;
            exchanged = is;
            to_all = to_all;
            talked = record {
              heard = heard;
              sent = sent;
              reads = reads;
              came = came;
              puts = puts;
              ended = ended;
              writes = Appends-kept _ _ _ _ writes last.0;
              failed_reads = last.1 ∙ written_still heard sent puts ∙ failed_reads;
              failed_writes = last.2 ∙ failed_writes ∙ ap (λ (n : ℕ). writer_failures n outcome) silent.1;
            };
          }

      -- If the desk was asked, the reply to the bytes is also the reply to all bytes that the client
      -- will ever send.
      pub answered : (outcome : Result Reply AnswerFault) → Receives (to_come old.stream) (to_come heard.stream) bytes
          → heard.read_failures ≡ old.read_failures
          → ((reply : Reply) → IsReplied Answers bytes left reply desk' → IfSome (to_come old.stream) (λ all. IsReplied Answers all left reply desk'))
          → Exchanges (record {
            decides = λ reply. IsReplied Answers bytes left reply desk';
            unasked = ⊥;
            writes = Appends (taken heard.stream) (taken sent.stream);
          }) outcome
          → IsEnded to_come taken outcome bytes sent new → sent.write_failures ≡ writer_failures heard.write_failures outcome
          → ExchangesBetween Given Carries Begins Noted Answers (λ accepted. to_come accepted.stream) (Talks to_come taken Shows Reads Writes)
          bytes clock desk log old outcome clock' desk' log' new
      answered (Ok reply) received counted replies (replied, writes) ended failed =
          exchanged (reply_text reply) (Ok reply) received ended writes counted failed (replied, refl)
          (IfSome_then _ {P = λ all. IsReplied Answers all left reply desk'} {Q = λ all. IsExchanged Answers all left (reply_text reply) (Ok reply) desk'}
          (replies reply replied) (λ all replied. (replied, refl)))
      answered (Err Read) received counted replies never ended failed = absurd never
      answered (Err (Write n)) received counted replies (reply, replied, fewer, writes) ended failed =
          exchanged (take n (reply_text reply)) (Err (Write n)) received ended writes counted failed (reply, replied, fewer, refl)
          (IfSome_then _ {P = λ all. IsReplied Answers all left reply desk'}
          {Q = λ all. IsExchanged Answers all left (take n (reply_text reply)) (Err (Write n)) desk'}
          (replies reply replied) (λ all replied. (reply, replied, fewer, refl)))
