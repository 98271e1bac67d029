-- Lemmas on decoded passes, on the desk's law for each reply, and on the state of the store after
-- an event.
use Rattle.club_core.specs.Run as machine
use Rattle.std.proofs.{Common.{MatchResult, ◌↔◌, ◌≢◌, ◌⊎◌, IsErr}, Math.Path.fun_ext, lemmas.List.{map-append, Elements.{All-tail, All-cons}}}
use Rattle.std.specs.List.{AllZip}
use Rattle.base64.specs.GeneralPurpose.{IsBytes}
use Rattle.club_core.specs.{Answer.ask_of, Basis.{key_of, view_of}, Laws.{IsAllowedBy, IsServed}, Office.{office_verdict, done_answer}, Request.{Pass, Words}}
use Rattle.club_core.specs.{Request.IsSignedUnder, Run.{Asked, Commanded, ToMember, ToOffice, after_change}, Store.{IsRead, KeepsClub, ReadsStore, StoreGhosts}}
use Rattle.club_core.specs.declared.{change.Change.Change, command.{Command.Command, OfficeAnswer.OfficeAnswer}, pass_fault.PassFault.PassFault}
use Rattle.club_core.specs.declared.{refusal.Refusal.TheVariants.Unavailable, reply.Reply.Reply, request.Request.Request, verdict.Verdict.Verdict}
use Rattle.club_gate.proofs.Common.{List, ◌∷◌, None, Result, IfOk, All, All-head, StoreFault, Club, IsSound, Err, Ok, Option, Some, [], ap, arith, map, refl}
use Rattle.club_gate.proofs.Common.{sym, ℕ, ◌≡◌, Form, Plain, subst, ◌∙◌, reading, IsEventOfBytes, decoded_words, machine_events, ◌++◌, All-nil, verdict_in}
use Rattle.club_gate.{proofs.Common.{inr, IsEvent, FitsIfAny, Steps}, specs.DecodedPass.{AreWordsOf, IsDecoded, IsSeenAs, FindsNames, identifier_of}}
use Rattle.club_gate.specs.{DecodedPass.key_name_in, Desk.{HasFailed, IsDecidedBy, DecidesOrFails, FailsAt, IsAnsweredBy, IsRefusedBy, others_after}}
use Rattle.club_gate.specs.{Laws.{Decodes, SeenAlike, SeesEvents, NamesItsRows}, Response.{unavailable, answer_or_fault, office_reply_of, reply_or_unavailable}}
use Rattle.club_gate.specs.{Runs.{AreEventsOf, IsEventOf}, Served.{EntitlesTo, IsLawful, IsNarrowedText}, computed.DecodedPass.{decoded_or_fault, decoded_pass}}
use Rattle.club_gate.specs.{computed.DecodedPass.{machine_event, machine_pass, without_form}, declared.event.Event.Event}
use Rattle.club_laws.specs.{Failed.NeverUnavailable, SingleRequest.{DependsOnTheBasisAlone, MoreCaveatsNeverOpenMore, RefusesWithoutABasis}}
use Rattle.club_laws.specs.{SingleRequest.{ServesOnlyTheEntitled, words_with}, SoundRuns.ChangesFit}
use Rattle.club_values.specs.Name.{IsName}
use Rattle.pass_caveats.specs.{Caveat.Understood, Fault.{Allowed, Allows}, Laws.ReadsWhatIsUnderstood, computed.CaveatOf.caveat_of, declared.ask.Ask.Ask}
use Rattle.pass_caveats.specs.declared.caveat.Caveat.{Caveat}
use Rattle.pass_forms.specs.{Laws.DecidesSigned, computed.Reading.is_signed, declared.fault.FormFault.FormFault}
use Rattle.pass_json.specs.{AnyForm.IsAnyReading, Laws.ReadsAnyFormExactly}

pub reads : {S A : Type 0} {ghosts : StoreGhosts S} {old new : S} {result : Result A StoreFault} {IsReturned : Club → A → Type 0}
    → ((store : S) (club : Club) (others : List Club) → ghosts.represents store club others → All IsSound (club ∷ others))
    → (ghosts.is_clean new → ghosts.is_clean old) × (ghosts.is_clean new → KeepsClub ghosts.represents old new)
    × (ghosts.is_clean new → MatchResult result (λ _. IsRead ghosts old new) (λ fault. ghosts.fails None old fault new))
    → (ghosts.is_clean new → (club : Club) (others : List Club) → ghosts.represents old club others → IsSound club → IfOk result (IsReturned club))
    → ReadsStore ghosts old new result IsReturned
reads {old} sounds keeps returned = record {
  was_clean = keeps.0;
  kept = keeps.1;
  failed = keeps.2;
  returned = λ clean club others represents. returned clean club others represents (All-head IsSound club others (sounds old club others represents));
}

same_found : {A : Type 0} (a b : Option A) (P : A → Type 0) → ((x : A) → (a ≡ Some x) ↔ P x) → ((x : A) → (b ≡ Some x) ↔ P x) → a ≡ b
same_found None None P h k = refl
same_found None (Some x) P h k = (h x).1 ((k x).0 refl)
same_found (Some x) b P h k = sym ((k x).1 ((h x).0 refl))

abbrev IsSeenCaveat : List ℕ → Option Caveat → Type 0
IsSeenCaveat text one = (caveat : Caveat) → (one ≡ Some caveat) ↔ Understood text caveat

seen_caveat : ReadsWhatIsUnderstood → (text : List ℕ) → IsSeenCaveat text (caveat_of text)
seen_caveat reads text = λ caveat. ((reads text caveat).1, (reads text caveat).0)

seen_caveats : ReadsWhatIsUnderstood → (texts : List (List ℕ)) → AllZip IsSeenCaveat texts (map caveat_of texts)
seen_caveats reads [] = tt
seen_caveats reads (text ∷ texts) = (seen_caveat reads text, seen_caveats reads texts)

same_caveats : ReadsWhatIsUnderstood → (texts : List (List ℕ)) (seen : List (Option Caveat)) → AllZip IsSeenCaveat texts seen → map caveat_of texts ≡ seen
same_caveats reads [] [] h = refl
same_caveats reads [] (one ∷ seen) h = absurd h
same_caveats reads (text ∷ texts) [] h = absurd h
same_caveats reads (text ∷ texts) (one ∷ seen) h =
    rw (same_found (caveat_of text) one (Understood text) (seen_caveat reads text) h.0, same_caveats reads texts seen h.1) refl

module _ (finds : FindsNames) (understood : ReadsWhatIsUnderstood) (signed : DecidesSigned) where
  pub machine_seen : (pass : Plain) → IsSeenAs pass (machine_pass pass)
  machine_seen pass = record {
    names = finds pass.identifier;
    understood = seen_caveats understood pass.caveats;
    signed = λ root. ((signed root pass).1, (signed root pass).0);
  }

  machine_alike : (pass : Plain) (seen : Pass) → IsSeenAs pass seen → machine_pass pass ≡ seen
  machine_alike pass seen h =
      let machine = machine_seen pass in
      let names = same_found (key_name_in pass.identifier) seen.key (λ (name : List ℕ). IsName name × (pass.identifier ≡ identifier_of name)) machine.names
      h.names in
      let roots : (λ (root : List ℕ). is_signed root pass) ≡ seen.is_signed =
      fun_ext (λ (root : List ℕ). grind (arith, machine.signed root, h.signed root))
      in
      rw (names, same_caveats understood pass.caveats seen.caveats h.understood, roots) refl

  pub seen_alike : SeenAlike
  seen_alike pass seen = (machine_alike pass seen, λ e. subst (λ (p : Pass). IsSeenAs pass p) e (machine_seen pass))

pub decodes_as : ReadsAnyFormExactly → (text : List ℕ) (form : Form) (pass : Plain) → IsBytes text → IsAnyReading text (Ok (form, pass))
    → decoded_pass text ≡ Ok (machine_pass pass)
decodes_as reads text form pass bytes h =
    ap (λ (r : Result (Form × Plain) FormFault). decoded_or_fault (without_form r)) ((reads text (Ok (form, pass)) bytes).0 h)

decoded_is : ReadsAnyFormExactly → SeenAlike → (text : List ℕ) (seen : Result Pass PassFault) → IsBytes text → IsDecoded text seen → decoded_pass text ≡ seen
decoded_is reads alike text (Ok seen) bytes h =
    decodes_as reads text h.0 h.1 bytes h.2 ∙ ap (λ (p : Pass). let read : Result Pass PassFault = Ok p in read) ((alike h.1 seen).0 h.3)
decoded_is reads alike text (Err fault) bytes h =
    ap (λ (r : Result (Form × Plain) FormFault). decoded_or_fault (without_form r)) ((reads text (Err h.0) bytes).0 h.1)
    ∙ ap (λ (f : PassFault). let read : Result Pass PassFault = Err f in read) (sym h.2)

decoded_by : ReadsAnyFormExactly → SeenAlike → (text : List ℕ) (read : Result (Form × Plain) FormFault) → IsBytes text → reading text ≡ read
    → IsDecoded text (decoded_or_fault (without_form read))
decoded_by reads alike text (Ok found) bytes e = (found.0, found.1, (reads text (Ok found) bytes).1 e, (alike found.1 (machine_pass found.1)).1 refl)
decoded_by reads alike text (Err reason) bytes e = (reason, (reads text (Err reason) bytes).1 e, refl)

pub decodes : ReadsAnyFormExactly → SeenAlike → Decodes
decodes reads alike text seen bytes = grind (arith, decoded_is, decoded_by)

pub event_is : Decodes → (event : Event) (seen : machine.Event) → IsEventOfBytes event → IsEventOf event seen → machine_event event ≡ seen
event_is law event seen bytes h = grind arith

event_by : Decodes → (event : Event) → IsEventOfBytes event → IsEventOf event (machine_event event)
event_by law event bytes = grind arith

events_are : Decodes → (all : List Event) (seen : List machine.Event) → All IsEventOfBytes all → AreEventsOf all seen → machine_events all ≡ seen
events_are law [] [] bytes h = refl
events_are law [] (one ∷ seen) bytes h = absurd h
events_are law (event ∷ all) [] bytes h = absurd h
events_are law (event ∷ all) (one ∷ seen) bytes h =
    rw (event_is law event one (All-head IsEventOfBytes event all bytes) h.0, events_are law all seen (All-tail IsEventOfBytes event all bytes) h.1) refl

events_by : Decodes → (all : List Event) → All IsEventOfBytes all → AreEventsOf all (machine_events all)
events_by law [] bytes = tt
events_by law (event ∷ all) bytes = grind (arith, event_by, All-head, All-tail, events_by law all (All-tail IsEventOfBytes event all bytes))

pub sees_events : Decodes → SeesEvents
sees_events law all seen bytes = grind (arith, events_are, events_by)

pub reply_or_failure : {S : Type 0} (ghosts : StoreGhosts S) (new : S) (club : Club) (others : List Club) (verdict : Verdict)
    (reply : Reply) → IsDecidedBy ghosts new club others verdict reply ⊎ HasFailed ghosts new club others verdict reply
    → reply ≢ unavailable → reply ≡ verdict.reply
reply_or_failure ghosts new club others verdict reply outcome some = grind arith

-- The reply of the machine to a request with this text as its pass.
abbrev pub reply_in : Club → List ℕ → Request → ℕ → Reply
reply_in club text request moment = (verdict_in club (decoded_words text request) moment).reply

decoded_read : (read : Result (Form × Plain) FormFault) (pass : Pass) → decoded_or_fault (without_form read) ≡ Ok pass
    → (found : Form × Plain) × (read ≡ Ok found) × (machine_pass found.1 ≡ pass)
decoded_read read pass e = grind arith

pub names_its_rows : ReadsAnyFormExactly → FindsNames → Decodes → NamesItsRows
names_its_rows reads finds law club text words form pass key bytes decoded read name identifier row =
    let same = sym ((law text words.pass bytes).0 decoded) ∙ decodes_as reads text form pass bytes read in
    rw ((ap key_of same ∙ (finds pass.identifier key.name).1 (name, identifier)), row) refl

module _ (serves : ServesOnlyTheEntitled) (alone : DependsOnTheBasisAlone) (refuses : RefusesWithoutABasis) (more : MoreCaveatsNeverOpenMore)
    (reads : ReadsAnyFormExactly) (signs : DecidesSigned) (finds : FindsNames) (understood : ReadsWhatIsUnderstood) (law : Decodes) (club : Club)
    (text : List ℕ) (request : Request) (moment : ℕ) (bytes : IsBytes text) where
  replies_as : (other : List ℕ) (reply : Reply) → IsBytes other → reply ≡ reply_in club other request moment → (words : Words)
      → AreWordsOf other request words → reply ≡ (verdict_in club words moment).reply
  replies_as other reply its e words are = grind arith

  allowed_text : (ask : Ask) (caveat_text : List ℕ) (caveat : Option Caveat) → caveat_of caveat_text ≡ caveat → IsAllowedBy ask caveat → Allows caveat_text ask
  allowed_text ask caveat_text None e h = absurd h
  allowed_text ask caveat_text (Some caveat) e h = (caveat, (understood caveat_text caveat).1 e, h)

  allowed_texts : (ask : Ask) (texts : List (List ℕ)) → All (IsAllowedBy ask) (map caveat_of texts) → Allowed texts ask
  allowed_texts ask [] h = All-nil (λ (it : List ℕ). Allows it ask)
  allowed_texts ask (one ∷ texts) h = All-cons (λ (it : List ℕ). Allows it ask) one texts
      (allowed_text ask one (caveat_of one) refl (All-head (IsAllowedBy ask) (caveat_of one) (map caveat_of texts) h))
      (allowed_texts ask texts (All-tail (IsAllowedBy ask) (caveat_of one) (map caveat_of texts) h))

  served_text : IsServed (reply_in club text request moment) → EntitlesTo club text request moment
  served_text h =
      let entitled = serves (decoded_words text request) moment club h in
      let key = entitled.basis.key in
      let found = decoded_read (reading text) entitled.pass entitled.read in
      let plain = found.0.1 in
      let read = (reads text (Ok found.0) bytes).1 found.1 in
      let named = (finds plain.identifier key.name).0 (ap (λ (p : Pass). p.key) found.2 ∙ entitled.key_name) in
      let signed : IsSignedUnder (machine_pass plain) key moment = rw found.2 entitled.signed in
      let same = names_its_rows reads finds law club text (decoded_words text request) found.0.0 plain key bytes ((law text (decoded_pass text) bytes).1 refl)
      read
      named.0 named.1 entitled.row in
      record {
        form = found.0.0;
        pass = plain;
        read = read;
        key = key;
        key_name = named.0;
        key_identifier = named.1;
        row = entitled.row;
        not_revoked = entitled.not_revoked;
        signed = record { root = signed.root; good = signed.good; signed = (signs signed.root plain).1 signed.signed };
        basis = entitled.basis;
        known = sym same ∙ entitled.known;
        permission = allowed_texts (ask_of (view_of entitled.basis request moment) request moment) plain.caveats
            (rw (ap (λ (p : Pass). p.caveats) found.2) entitled.permission);
      }

  forms_alike : (other : List ℕ) (form other_form : Form) (plain : Plain) → IsBytes other → IsAnyReading text (Ok (form, plain))
      → IsAnyReading other (Ok (other_form, plain)) → reply_in club text request moment ≡ reply_in club other request moment
  forms_alike other form other_form plain its h k =
      let same : decoded_pass text ≡ decoded_pass other = decodes_as reads text form plain bytes h ∙ sym (decodes_as reads other other_form plain its k) in
      ap (λ (s : Result Pass PassFault). (verdict_in club (record { pass = s; request = request }) moment).reply) same

  named_by : (identifier name other : List ℕ) → key_name_in identifier ≡ Some name → identifier ≡ identifier_of other → key_name_in identifier ≡ Some other
  named_by identifier name other e f =
      let spelled = sym ((finds identifier name).0 e).1 ∙ f in
      let same : name ≡ other = cc in
      e ∙ ap (λ (n : List ℕ). Some n) same

  opens_no_more : (wide : List ℕ) → IsBytes wide → IsNarrowedText club wide text moment → IsServed (reply_in club text request moment)
      → reply_in club text request moment ≡ reply_in club wide request moment
  opens_no_more wide wide_bytes n served =
      let broad = machine_pass n.pass in
      let narrow = machine_pass n.other_pass in
      let broad_decoded = decodes_as reads wide n.form n.pass wide_bytes n.wide_read in
      let narrow_decoded = decodes_as reads text n.other_form n.other_pass bytes n.narrow_read in
      let reply : Result Pass PassFault → Reply = λ s. (verdict_in club (record { pass = s; request = request }) moment).reply in
      let P : Reply → Type 0 = λ r. IsServed r in
      let there : IsServed (verdict_in club (words_with narrow request) moment).reply = subst P (ap reply narrow_decoded) served in
      let entitled = serves (words_with narrow request) moment club there in
      let e = entitled.read in
      let alike : narrow ≡ entitled.pass = cc in
      let name = named_by n.other_pass.identifier entitled.basis.key.name n.key.name (ap (λ (p : Pass). p.key) alike ∙ entitled.key_name) (n.identifier
      ∙ n.key_identifier) in
      let caveats : narrow.caveats ≡ broad.caveats ++ map caveat_of n.more =
      ap (λ (cs : List (List ℕ)). map caveat_of cs) n.caveats ∙ map-append caveat_of n.pass.caveats n.more
      in
      let wide_name : broad.key ≡ Some n.key.name = ap key_name_in (sym n.identifier) ∙ name in
      let signed : IsSignedUnder broad n.key moment =
      record { root = n.signed.root; good = n.signed.good; signed = (signs n.signed.root n.pass).0 n.signed.signed }
      in
      let same = more broad narrow (map caveat_of n.more) n.key request moment club wide_name name caveats n.row signed there in
      ap reply narrow_decoded ∙ (ap (λ (v : Verdict). v.reply) (sym same) ∙ sym (ap reply broad_decoded))

  pub lawful : (reply : Reply) → (reply ≢ unavailable → reply ≡ reply_in club text request moment) → IsLawful club text request moment reply
  lawful reply returned =
      let same : IsServed reply → reply ≡ reply_in club text request moment = λ served. returned (λ e. served Unavailable e) in
      let also_served : IsServed reply → IsServed (reply_in club text request moment) = λ served. subst (λ (r : Reply). IsServed r) (same served) served
      in
      record {
        entitles = λ served. served_text (also_served served);
        depends = λ words other are basis some.
            replies_as text reply bytes (returned some) words are ∙ ap (λ (v : Verdict). v.reply) (alone words moment club other (sym basis));
        blind = λ words are none some. replies_as text reply bytes (returned some) words are ∙ ap (λ (v : Verdict). v.reply) (refuses words moment club none);
        forms = λ other words form other_form plain its h k are some.
            replies_as other reply its (returned some ∙ forms_alike other form other_form plain its h k) words are;
        less = λ wide words its narrowed are served. replies_as wide reply its (same served ∙ opens_no_more wide its narrowed (also_served served)) words are;
      }

pub command_fits : ChangesFit → (club : Club) (command : Command) (change : Option Change) → IsSound club → IsEvent (Commanded command)
    → office_verdict club command ≡ Ok change → FitsIfAny change club
command_fits fits club command None sound event is = tt
command_fits fits club command (Some change) sound event is = fits club (Commanded command) change sound event is

pub ask_fits : ChangesFit → (club : Club) (words : Words) (moment : ℕ) (verdict : Verdict) → IsSound club
    → IsEvent (Asked words moment) → verdict ≡ verdict_in club words moment → FitsIfAny verdict.change club
ask_fits fits club words moment verdict sound event e = go verdict.change (ap (λ (v : Verdict). v.change) (sym e))
  where
    go : (change : Option Change) → (verdict_in club words moment).change ≡ change → FitsIfAny change club
    go None is = tt
    go (Some change) is = fits club (Asked words moment) change sound event is

pub always_decided : NeverUnavailable → (club : Club) (words : Words) (moment : ℕ) (verdict : Verdict) → verdict ≡ verdict_in club words moment
    → verdict.reply ≡ unavailable → ⊥
always_decided never club words moment verdict e is = never club (Asked words moment) (ap (λ (v : Verdict). ToMember v.reply) (sym e) ∙ ap ToMember is)

pub changed_fault : {S : Type 0} (ghosts : StoreGhosts S) (old now new : S) (club : Club) (words : Words) (moment : ℕ)
    (verdict : Verdict) → verdict ≡ verdict_in club words moment → (fault : StoreFault) → IsRead ghosts old now → ghosts.fails verdict.change now fault new
    → FailsAt ghosts old new (verdict_in club words moment).change fault
changed_fault {S} ghosts old now new club words moment verdict e fault read failed = grind arith

pub fails_at_its_words : {S : Type 0} (ghosts : StoreGhosts S) (old new : S) (club : Club) (text : List ℕ) (request : Request)
    (moment : ℕ) (fault : StoreFault) → Decodes → IsBytes text → FailsAt ghosts old new (verdict_in club (decoded_words text request) moment).change fault
    → (words : Words) → AreWordsOf text request words → FailsAt ghosts old new (verdict_in club words moment).change fault
fails_at_its_words ghosts old new club text request moment fault law bytes failed words are = grind arith

module _ {S : Type 0} (ghosts : StoreGhosts S) (new : S) (club : Club) (others : List Club) where
  pub command_done : (command : Command) (change : Option Change) → office_verdict club command ≡ Ok change → ghosts.represents new (after_change change club)
      (others_after change others) → IsAnsweredBy ghosts new club others (Commanded command) (ToOffice (office_reply_of (done_answer command)))
  command_done command change e represents = grind arith

  pub command_failed : (command : Command) (change : Option Change) (result : Result OfficeAnswer StoreFault) → IsErr result
      → office_verdict club command ≡ Ok change → ghosts.represents new club (after_change change club ∷ others)
      → IsRefusedBy ghosts new club others (Commanded command) (ToOffice (answer_or_fault result))
  command_failed command change result err e represents = record { failure = grind arith; represents = inr (rw e represents) }

  pub ask_done : NeverUnavailable → (words : Words) (moment : ℕ) (verdict : Verdict) → verdict ≡ verdict_in club words moment
      → ghosts.represents new (after_change verdict.change club) (others_after verdict.change others)
      → IsDecidedBy ghosts new club others (verdict_in club words moment) verdict.reply
  ask_done never words moment verdict e represents =
      rw (← e) (record { available = always_decided never club words moment verdict e; reply_is = refl; represents = represents })

  pub ask_failed : (words : Words) (moment : ℕ) (verdict : Verdict) (result : Result Reply StoreFault) → IsErr result
      → verdict ≡ verdict_in club words moment → ghosts.represents new club (after_change verdict.change club ∷ others)
      → HasFailed ghosts new club others (verdict_in club words moment) (reply_or_unavailable result)
  ask_failed words moment verdict result err e represents = grind arith

pub asked_steps : {S : Type 0} (ghosts : StoreGhosts S) (old new : S) (words : Words) (moment : ℕ) (reply : Reply)
    → DecidesOrFails ghosts old new words moment reply → Steps ghosts old new (Asked words moment) (ToMember reply)
asked_steps ghosts old new words moment reply did club others represents = grind arith
