-- Lemmas on the one list of events that a server's trace has.
use Rattle.club_core.specs.Run as machine
use Rattle.clubdesk_commands.specs.Events as spec
use Rattle.clubdesk_commands.specs.Laws as law
use Rattle.clubdesk_commands.specs.OfficeDesk as carried
use Rattle.std.proofs.Common.{◌≡◌, ◌⊎◌, ℕ, List, [], ◌∷◌, ◌++◌, ◌∙◌, length, map, Option, Some, None, Result, Ok, Err, inl, inr, refl, ap, sym, subst, arith}
use Rattle.std.proofs.lemmas.List.{length-append, same_from_push}
use Rattle.clap.specs.Words.{Text}
use Rattle.club_core.specs.{Club.Club, Request.{Pass, Words}, declared.{pass_fault.PassFault.PassFault, request.Request.Request}}
use Rattle.club_core.specs.declared.{refusal.Refusal.{Refusal, TheVariants.Unavailable}, reply.Reply.{Reply, TheVariants.Refused}}
use Rattle.club_gate.specs.{DecodedPass.{AreWordsOf, IsDecoded, fault_of}, Laws.SeenAlike, Runs.DeskResponse, computed.DecodedPass.machine_pass}
use Rattle.clubdesk_arguments.specs.{Arguments.{AskFor, AskForOneJob, ReadsArguments}, Values.JobModel}
use Rattle.clubdesk_arguments.specs.declared.task.{KeyCommand.KeyCommand, Service.Service, Task.{Task, TheVariants.Key}}
use Rattle.clubdesk_arguments.specs.declared.task.Work.{Work, TheVariants.{Office, Rootless, Serve}}
use Rattle.clubdesk_commands.proofs.{FollowedTrace.lacks_memory, RunLemmas.same_items}
use Rattle.clubdesk_commands.specs.Events.{AreEventsOfEndings, AskForNoTask, AskForTask, IsEventOfEnding, IsEventOfClient, IsEventOfCommand}
use Rattle.clubdesk_commands.specs.{Events.{IsEventOfConnection, IsEventOfRequest, command_of}, HandedCommand.{SpellsCommand, command_data, root_in_input}}
use Rattle.clubdesk_commands.specs.Laws.{AreAlike, IsRefusedForMemory, IsAnsweredForMemory, OneListOfEvents}
use Rattle.command_line.specs.declared.{errors.ArgumentsFault.TheVariants.Memory, job.Asked.TheVariants.{Perform, ShowText}}
use Rattle.desk_server.specs.Trace.{AnsweredCommand, ClientExchange, Ending, Ending.{nobody, overrun, unanswered, from_office, from_client}}
use Rattle.desk_server.specs.declared.office.Answer.{Answer}
use Rattle.http_request.specs.Laws.{OneReading}
use Rattle.jiff_core.specs.declared.timestamp.Timestamp.{Timestamp}
use Rattle.pass_forms.specs.{Pass.Plain, declared.{fault.FormFault.FormFault, form.Form.Form}}
use Rattle.pass_json.specs.Laws.{OneReadingEachText}
use Rattle.serde_json.specs.{Data.string, View.items_of}

same_texts : (xs ys : List Text) → map string xs ≡ map string ys → xs ≡ ys
same_texts (x ∷ xs) (y ∷ ys) e = let rest : xs ≡ ys = same_texts xs ys (cc) in cc
same_texts [] [] e = refl
same_texts _ _ e = cc

record IsSameCommand (root root' : Text) (arguments arguments' : List Text) : Type 0 where
  same_root : root ≡ root'
  same_arguments : arguments ≡ arguments'

one_command : (bytes : List ℕ) (root root' : Text) (arguments arguments' : List Text) → SpellsCommand bytes root arguments
    → SpellsCommand bytes root' arguments'
    → IsSameCommand root root' arguments arguments'
one_command bytes root root' arguments arguments' one other =
    let is : command_data root arguments ≡ command_data root' arguments' = cc (one.spelled, other.spelled) in
    let items : items_of (map string (root ∷ arguments)) ≡ items_of (map string (root' ∷ arguments')) = cc in
    let same : root ∷ arguments ≡ root' ∷ arguments' = same_texts (root ∷ arguments) (root' ∷ arguments') (same_items _ _ items) in
    record { same_root = cc; same_arguments = cc }

-- The work asks for this task, if the command has this root.
IsTask : Text → Work → Task → Type 0
IsTask root (Office asked) task = asked ≡ task
IsTask root (Rootless command) task = (given : List ℕ) × (root_in_input root ≡ Some given) × (Key command given ≡ task)
IsTask root (Serve service) task = ⊥

record Asks (bytes : List ℕ) (task : Task) : Type 0 where
  root : Text
  arguments : List Text
  file : Text
  work : Work
  spells : SpellsCommand bytes root arguments
  asks : AskFor arguments file work
  is : IsTask root work task

asked : (bytes : List ℕ) (task : Task) → AskForTask bytes task → Asks bytes task
unfolding IsTask
asked bytes _ (spec.in_arguments root arguments file task spells asks) =
    record { root = root; arguments = arguments; file = file; work = Office task; spells = spells; asks = asks; is = refl }
asked bytes _ (spec.with_root root arguments file command given spells asks root_is) = record {
  root = root;
  arguments = arguments;
  file = file;
  work = Rootless command;
  spells = spells;
  asks = asks;
  is = (given, root_is, refl);
}

same_task : (root : Text) (work : Work) (task task' : Task) → IsTask root work task → IsTask root work task' → task ≡ task'
unfolding IsTask
same_task root (Office asked) task task' one other = cc
same_task root (Rootless command) task task' (given, root_is, is) (given', root_is', is') = cc
same_task root (Serve service) task task' never other = absurd never

not_served : (root : Text) (work : Work) (task : Task) (service : Service) → IsTask root work task → Serve service ≡ work → ⊥
unfolding IsTask
not_served root (Serve other) task service is same = is
not_served root work task service is same = cc

has_root : (root : Text) (work : Work) (task : Task) (command : KeyCommand) → IsTask root work task → Rootless command ≡ work → root_in_input root ≡ None → ⊥
unfolding IsTask
has_root root (Rootless other) task command (given, root_is, is) same lacks = cc
has_root root (Serve service) task command is same lacks = is
has_root root work task command is same lacks = cc

module _ (asks_once : AskForOneJob) where
  one_work : (arguments : List Text) (file file' : Text) (work work' : Work) → AskFor arguments file work → AskFor arguments file' work' → work' ≡ work
  one_work arguments file file' work work' one other =
      let job : JobModel = record { file = file; work = work } in
      let job' : JobModel = record { file = file'; work = work' } in
      elim (asks_once arguments job (Ok (Perform job')) one other) [
        | inl is ↦ let same : job' ≡ job = cc in ap (λ (asked : JobModel). asked.work) same
        | inr is ↦ absurd cc
      ]

  one_task : (bytes : List ℕ) (task task' : Task) → AskForTask bytes task → AskForTask bytes task' → task ≡ task'
  one_task bytes task task' one other =
      let a = asked bytes task one in
      let b = asked bytes task' other in
      let same = one_command bytes a.root b.root a.arguments b.arguments a.spells b.spells in
      let work = one_work a.arguments a.file b.file a.work b.work a.asks (rw same.same_arguments b.asks) in
      same_task a.root a.work task task' a.is (rw (same.same_root, ← work) b.is)

  -- Bytes that ask for a task are no event only if memory ran out.
  no_task_for : (bytes : List ℕ) (task : Task) (answer : Answer) → AskForTask bytes task → AskForNoTask bytes answer → answer.carried.status ≡ 4
  no_task_for bytes task answer one (spec.no_command bad status) = let a = asked bytes task one in absurd (bad a.root a.arguments a.spells)
  no_task_for bytes task answer one (spec.other root arguments spells (carried.text_asked text reads) status) =
      let a = asked bytes task one in
      let same = one_command bytes a.root root a.arguments arguments a.spells spells in
      let job : JobModel = record { file = a.file; work = a.work } in
      let its = subst (λ (arguments : List Text). ReadsArguments arguments (Ok (ShowText text))) (sym same.same_arguments) reads in
      elim (asks_once a.arguments job (Ok (ShowText text)) a.asks its) [ inl is ↦ absurd cc | inr is ↦ absurd cc ]
  no_task_for bytes task answer one (spec.other root arguments spells (carried.server_asked file service asks) status) =
      let a = asked bytes task one in
      let same = one_command bytes a.root root a.arguments arguments a.spells spells in
      absurd (not_served a.root a.work task service a.is (one_work a.arguments a.file file a.work (Serve service) a.asks (rw same.same_arguments asks)))
  no_task_for bytes task answer one (spec.refused root arguments fault spells reads answers) =
      let a = asked bytes task one in
      let same = one_command bytes a.root root a.arguments arguments a.spells spells in
      let job : JobModel = record { file = a.file; work = a.work } in
      let its = subst (λ (arguments : List Text). ReadsArguments arguments (Err fault)) (sym same.same_arguments) reads in
      elim (asks_once a.arguments job (Err fault) a.asks its) [
        | inl is ↦ absurd cc
        | inr is ↦ let memory : fault ≡ Memory = cc in lacks_memory answer (rw memory at answers)
      ]
  no_task_for bytes task answer one (spec.no_root root arguments file command spells asks lacks answers) =
      let a = asked bytes task one in
      let same = one_command bytes a.root root a.arguments arguments a.spells spells in
      absurd (has_root a.root a.work task command a.is
      (one_work a.arguments a.file file a.work (Rootless command) a.asks (rw same.same_arguments asks)) (rw same.same_root lacks))

  of_command : {Given Given' : Option Timestamp → Type 0} {club club' : Club} (bytes : List ℕ) (answer : Answer) {one other : List machine.Event}
      {its its' : List DeskResponse} → IsEventOfCommand Given club bytes answer one its → IsEventOfCommand Given' club' bytes answer other its'
      → (one ≡ other) ⊎ (answer.carried.status ≡ 4)
  of_command bytes answer (spec.given task command text told reply asks is gives answers)
      (spec.given task' command' text' told' reply' asks' is' gives' answers') =
      let same : task ≡ task' = one_task bytes task task' asks asks' in
      let commands : Some command ≡ Some command' = sym is ∙ ap command_of same ∙ is' in
      let equal : command ≡ command' = cc in
      inl (rw equal refl)
  of_command bytes answer (spec.given task command text told reply asks is gives answers) (spec.shown task' told' asks' none shows answers') =
      let same : task ≡ task' = one_task bytes task task' asks asks' in
      let never : Some command ≡ None = sym is ∙ ap command_of same ∙ none in
      absurd cc
  of_command bytes answer (spec.given task command text told reply asks is gives answers) (spec.no_task none) = inr (no_task_for bytes task answer asks none)
  of_command bytes answer (spec.shown task' told' asks' none shows answers') (spec.given task command text told reply asks is gives answers) =
      let same : task ≡ task' = one_task bytes task task' asks asks' in
      let never : Some command ≡ None = sym is ∙ ap command_of same ∙ none in
      absurd cc
  of_command bytes answer (spec.no_task none) (spec.given task command text told reply asks is gives answers) = inr (no_task_for bytes task answer asks none)
  of_command bytes answer (spec.no_memory lacks) other = inr lacks
  of_command bytes answer one (spec.no_memory lacks) = inr lacks
  of_command bytes answer one other = inl refl

abbrev read_as : Form × Plain → Result (Form × Plain) FormFault
read_as found = Ok found

same_pass : (one other : Form × Plain) → read_as one ≡ read_as other → one.1 ≡ other.1
same_pass one other e = let same : one ≡ other = cc in ap (λ (found : Form × Plain). found.1) same

module _ (texts_once : OneReadingEachText) (alike : SeenAlike) where
  one_pass : (text : List ℕ) (one other : Result Pass PassFault) → IsDecoded text one → IsDecoded text other → one ≡ other
  one_pass text (Ok a) (Ok b) (form, pass, reads, seen) (form', pass', reads', seen') =
      let same = texts_once text (Ok (form, pass)) (Ok (form', pass')) reads reads' in
      let passes : pass ≡ pass' = same_pass (form, pass) (form', pass') same in
      let first : machine_pass pass ≡ a = (alike pass a).0 seen in
      let second : machine_pass pass' ≡ b = (alike pass' b).0 seen' in
      cc
  one_pass text (Ok a) (Err fault) (form, pass, reads, seen) (reason, reads', is) =
      let same = texts_once text (Ok (form, pass)) (Err reason) reads reads' in absurd cc
  one_pass text (Err fault) (Ok b) (reason, reads, is) (form, pass, reads', seen) =
      let same = texts_once text (Err reason) (Ok (form, pass)) reads reads' in absurd cc
  one_pass text (Err fault) (Err fault') (reason, reads, is) (reason', reads', is') =
      let same = texts_once text (Err reason) (Err reason') reads reads' in
      let reasons : reason ≡ reason' = cc in
      let faults : fault ≡ fault' = is ∙ ap fault_of reasons ∙ sym is' in
      cc

  one_words : (text : List ℕ) (request : Request) (words words' : Words) → AreWordsOf text request words → AreWordsOf text request words' → words ≡ words'
  one_words text request words words' one other =
      let passes = one_pass text words.pass words'.pass one.0 other.0 in
      let requests : words.request ≡ words'.request = one.1 ∙ sym other.1 in
      grind arith

  module _ (reads_once : OneReading) where
    of_request : (moment : ℕ) (bytes : List ℕ) (reply : Reply) {one other : List machine.Event} {its its' : List DeskResponse}
        → IsEventOfRequest moment bytes reply one its → IsEventOfRequest moment bytes reply other its' → (one ≡ other) ⊎ (reply ≡ Refused Unavailable)
    of_request moment bytes reply (spec.request decoded words reads are) (spec.request decoded' words' reads' are') =
        let same = reads_once bytes (Ok decoded) (Ok decoded') reads reads' in
        let decodings : decoded ≡ decoded' = cc in
        let equal : words ≡ words' = one_words decoded.pass decoded.request words words' are (rw decodings are') in
        inl (rw equal refl)
    of_request moment bytes reply (spec.request decoded words reads are) (spec.no_request refusal reads' is) =
        let same = reads_once bytes (Ok decoded) (Err refusal) reads reads' in absurd cc
    of_request moment bytes reply (spec.no_request refusal reads' is) (spec.request decoded words reads are) =
        let same = reads_once bytes (Ok decoded) (Err refusal) reads reads' in absurd cc
    of_request moment bytes reply (spec.no_memory holds is) other = inr is
    of_request moment bytes reply one (spec.no_memory holds is) = inr is
    of_request moment bytes reply one other = inl refl

    module _ (asks_once : AskForOneJob) (Given : Option Timestamp → Type 0) where
      of_client : (exchange : ClientExchange) (reply : Option Reply) (one other : List machine.Event) (its its' : List DeskResponse) → exchange.reply ≡ reply
          → IsEventOfClient exchange.moment exchange.bytes reply one its → IsEventOfClient exchange.moment exchange.bytes reply other its'
          → (one ≡ other) ⊎ (exchange.reply ≡ Some (Refused Unavailable))
      of_client exchange None one other its its' is first second = inl (first.0 ∙ sym second.0)
      of_client exchange (Some reply) one other its its' is first second = elim (of_request exchange.moment exchange.bytes reply first second) [
        | inl same ↦ inl same
        | inr unavailable ↦ inr (is ∙ ap (λ (r : Reply). Some r) unavailable)
      ]

      of_connection : (club club' : Club) (came : Option AnsweredCommand) (one other : List machine.Event) (its its' : List DeskResponse)
          → IsEventOfConnection Given club came one its → IsEventOfConnection Given club' came other its' → (one ≡ other) ⊎ IsAnsweredForMemory came
      of_connection club club' None one other its its' first second = inl (first.0 ∙ sym second.0)
      of_connection club club' (Some command) one other its its' first second = of_command asks_once command.bytes command.answer first second

      of_ending : (club club' : Club) (ending : Ending) (one other : List machine.Event) (its its' : List DeskResponse)
          → IsEventOfEnding Given club ending one its → IsEventOfEnding Given club' ending other its' → (one ≡ other) ⊎ IsRefusedForMemory ending
      of_ending club club' (from_client exchange) one other its its' first second = of_client exchange exchange.reply one other its its' refl first second
      of_ending club club' (from_office connection) one other its its' first second =
          of_connection club club' connection.command one other its its' first second
      of_ending club club' nobody one other its its' first second = inl (first.0 ∙ sym second.0)
      of_ending club club' overrun one other its its' first second = inl (first.0 ∙ sym second.0)
      of_ending club club' unanswered one other its its' first second = inl (first.0 ∙ sym second.0)

      are_alike : {start start' : Club} {all all' : List Ending} {events others : List machine.Event} {responses responses' : List DeskResponse}
          → all ≡ all' → AreEventsOfEndings Given start all events responses → AreEventsOfEndings Given start' all' others responses'
          → AreAlike all events others
      are_alike e spec.no_event spec.no_event = law.no_event
      are_alike e spec.no_event (spec.more_events all' events' responses' ending' one' its' now' before' ran' is') =
          absurd (omega (arith, ap length e, length-append all' (ending' ∷ [])))
      are_alike e (spec.more_events all events responses ending one its now before ran is) spec.no_event =
          absurd (omega (arith, ap length e, length-append all (ending ∷ [])))
      are_alike e (spec.more_events all events responses ending one its now before ran is)
          (spec.more_events all' events' responses' ending' one' its' now' before' ran' is') =
          let same = same_from_push all all' ending ending' e in
          let so_far = are_alike same.0 before before' in
          let second = subst (λ (last : Ending). IsEventOfEnding Given now' last one' its') (sym same.1) is' in
          elim (of_ending now now' ending one one' its its' is second) [
            | inl equal ↦ rw (← equal) (law.same_events all events events' ending one so_far)
            | inr refused ↦ law.other_events all events events' ending one one' so_far refused
          ]

      pub one_list : OneListOfEvents Given
      one_list start start' all events others responses responses' one other = are_alike refl one other
