-- Lemmas for the proof of `run`: about options, the output of each command, and `>>=`, which joins
-- two steps of a command that may fail.
use Rattle.std.proofs.Common.{refl, ◌≡◌, IsTrue, is_some, List, Option, Some, None, Result, ap, ◌∙◌, ℕ, ◌+◌, ◌<◌, ◌≤◌, ◌++◌, length, map, drop, sym}
use Rattle.std.proofs.Common.{append_assoc, Global, codes, [], ◌∷◌, Ok, Err, IsOk, arith, Bool, cond, not, option_map, unwrap_or, MatchResult, inl, inr, rules}
use Rattle.std.proofs.{Math.{ListN.drop_of_length-le, Path.fun_ext}, lemmas.{Bool.{le-ltb, lt-ltb, Decides.{same_from_decides, nat_tests}}, Grind.common_steps}}
use Rattle.std.{proofs.lemmas.List.{append-nil, drop_more, length-append, length-map, Sums.fold-append}, specs.{Borrow.Bor, Fmt.decimal, Io.BufRead.strip_last}}
use Rattle.std.specs.{Io.KnownBytes.Appends, List.{slice_index_or, position, prefix_len}, Prelude.Vec}
use Rattle.clap.{proofs.{OnLiterals.clap_on_literals, WalkLemmas.raw_values-rows}, specs.Words.{Row, Text, all_of, matched_of, raw_values, rows_of}}
use Rattle.clap.specs.declared.parser.matches.Found.{Found}
use Rattle.command_line.specs.{Job.{Answers, RowsAnswerOnce, ReadsOnce}, Process.AppendsFront, Table.IsGood, declared.errors.ArgumentsFault.ArgumentsFault}
use Rattle.command_line.specs.declared.{errors.ArgumentsFault.TheVariants.{BadValue, Memory as OutOfMemory}, job.Asked.TheVariants.Perform}
use Rattle.pass_caveats.specs.{Laws.ReadsWhatIsUnderstood, computed.CaveatOf.caveat_of, declared.caveat.Caveat.Caveat}
use Rattle.pass_forms.specs.{Pass.Plain, Reading.{UnlessMemory, max_caveats}, Writing.{IsNarrowingFault, with_caveat, IsV1Text, IsV2Text, IsWritableText}}
use Rattle.pass_forms.specs.{Writing.{IsWriteFault, IsWriting}, declared.{fault.FormFault.{FormFault, TheVariants.{TooMany, Memory}}, form.Form.Form}}
use Rattle.pass_forms.specs.declared.form.Form.TheVariants.{V1, V2, Json}
use Rattle.pass_json.specs.{AnyForm.{IsAnyReading, IsRefusedIn, IsTextIn}, JsonWriting.IsJsonText, Laws.{OneReadingEachText, OneWritingEachForm}}
use Rattle.pass_mac.specs.{Chain.{derived_key, extended_signature}, Hmac.hmac}
use Rattle.passtool_commands.specs.Answer.{narrowing, with_caveats, IsOnly, Results, ◌>>=◌, IsAnswer, OutcomeText, reads_input, IsVerdict, ReadsPass}
use Rattle.passtool_commands.specs.Answer.{WritesPass, new_pass, AnswersText, caveat_lines, escaped_text, escaped_byte, value_line, listing_text}
use Rattle.passtool_commands.specs.{Answer.with_line_feed, Application.passtool, Arguments.{IsCaveatTest, IsCaveatText, ReadsCommand, command_of}}
use Rattle.passtool_commands.specs.{Arguments.{AskForCommand, ReadsArguments}, Fault.of_arguments, Laws.{AskForOneCommand, AnswersOnce, MintSigns}}
use Rattle.passtool_commands.specs.{Laws.{NarrowingKeepsSigned, VerifyDecidesSigned}, Run.{AnswersArguments, Performs, ReadsInput, Writes, WritesFront}}
use Rattle.passtool_commands.specs.{computed.Arguments.is_understood, declared.answer.{BadValue.{BadValue as OurBadValue, TheVariants.Root}, Fault.Fault}}
use Rattle.passtool_commands.specs.declared.answer.{Fault.TheVariants.{Pass, InputOutput}, Outcome.{Outcome, TheVariants.{Done, NotSigned}}}
use Rattle.passtool_commands.specs.declared.{command.Command.{Command, TheVariants.{Mint, Show, Narrow, Convert, Verify}}, table.Name.Name}

pub is_good : IsGood passtool
unfolding clap_on_literals passtool
is_good = record { free = refl; rules = λ value. refl; takes = λ value. refl }

pub is_test : ReadsWhatIsUnderstood → IsCaveatTest is_understood
is_test reads text = (found (caveat_of text) refl, λ is. ap is_some ((reads text is.0).0 is.1))
  where
    found : (read : Option Caveat) → caveat_of text ≡ read → IsTrue (is_some read) → IsCaveatText text
    found (Some caveat) same is = (caveat, (reads text caveat).1 same)
    found None same is = cc

pub values_read : ReadsWhatIsUnderstood → (name : Name) (rows : List Row) (result : Result Command (ArgumentsFault OurBadValue))
    → Answers (command_of is_understood name rows) result → ReadsCommand name rows result
values_read reads name rows result is = record { is_understood = is_understood; is_test = is_test reads; answers = is }

pub reads_once : RowsAnswerOnce Command OurBadValue → ReadsOnce ReadsCommand
reads_once once name rows command result one other =
    let alike = fun_ext (λ (text : Text). same_from_decides _ _ (other.is_test text) (one.is_test text)) in
    once (command_of one.is_understood name rows) command result one.answers (rw alike at other.answers)

pub byte_written : (bytes : List ℕ) (i d : ℕ) (old new whole : List ℕ) → i < length bytes → new ≡ old ++ escaped_byte (slice_index_or bytes i d)
    → old ++ escaped_text (drop i bytes) ≡ whole → new ++ escaped_text (drop (i + 1) bytes) ≡ whole
byte_written bytes i d old new whole within is before = rw (is, append_assoc) (rw (drop_more bytes i d within) at before)

pub none_left : (bytes : List ℕ) (i : ℕ) (old whole : List ℕ) → length bytes ≤ i → old ++ escaped_text (drop i bytes) ≡ whole → old ≡ whole
none_left bytes i old whole most same = sym (append-nil old) ∙ rw (drop_of_length-le bytes most) at same

abbrev pub items : List (Vec ℕ Global) → List (List ℕ)
items = map (λ caveat. caveat.items)

pub caveat_written : (caveats : List (Vec ℕ Global)) (i : ℕ) (item : Vec ℕ Global) (value name old new whole : List ℕ) → i < length caveats
    → item ≡ slice_index_or caveats i item → value ≡ item.items → name ≡ codes "caveat " ++ decimal (i + 1) → new ≡ old ++ value_line name value
    → old ++ caveat_lines (i + 1) (items (drop i caveats)) ≡ whole → new ++ caveat_lines (i + 1 + 1) (items (drop (i + 1) caveats)) ≡ whole
unfolding caveat_lines
caveat_written caveats i item value name old new whole within is value_is name_is added before =
    rw (added, name_is, value_is, append_assoc) (rw (drop_more caveats i item within, ← is) at before)

pub no_caveat_left : (caveats : List (Vec ℕ Global)) (i : ℕ) (old whole : List ℕ) → length caveats ≤ i
    → old ++ caveat_lines (i + 1) (items (drop i caveats)) ≡ whole → old ≡ whole
unfolding caveat_lines
no_caveat_left caveats i old whole most same = sym (append-nil old) ∙ rw (drop_of_length-le caveats most) at same

abbrev pub texts : List (Bor (List ℕ)) → List (List ℕ)
texts = map (λ text. text.now)

pub one_added : (xs : List (Bor (List ℕ))) (i : ℕ) (d : Bor (List ℕ)) (caveat : List ℕ) (pass now : Plain) → i < length xs
    → caveat ≡ (slice_index_or xs i d).now → now ≡ with_caveat caveat pass
    → with_caveats (texts (drop (i + 1) xs)) now ≡ with_caveats (texts (drop i xs)) pass
one_added xs i d caveat pass now within is added = rw (added, is, drop_more xs i d within, append_assoc) refl

module _ (xs : List (Bor (List ℕ))) (i : ℕ) (pass now : Plain) (counted : length now.caveats ≡ length pass.caveats + i) where
  pub all_added : (few : length now.caveats ≤ max_caveats) → length xs ≤ i → i ≤ length xs
      → with_caveats (texts (drop i xs)) now ≡ with_caveats (texts xs) pass → narrowing (texts xs) pass ≡ Ok now
  unfolding narrowing
  all_added few most least same =
      let total : length pass.caveats + length (texts xs) ≤ max_caveats = omega (arith, length-map xs (λ text. text.now)) in
      let made : with_caveats (texts xs) pass ≡ now = sym same ∙ rw (drop_of_length-le xs most, append-nil) refl in
      rw (le-ltb max_caveats (length pass.caveats + length (texts xs)) total) (ap Ok made)

  pub one_refused : (fault : FormFault) → IsNarrowingFault fault → (fault ≡ TooMany → max_caveats ≤ length now.caveats) → i < length xs
      → UnlessMemory (λ answer. narrowing (texts xs) pass ≡ answer) (Err fault)
  unfolding narrowing
  one_refused TooMany h full within =
      let many : max_caveats ≤ length now.caveats = full refl in
      let total : max_caveats < length pass.caveats + length (texts xs) = omega (arith, length-map xs (λ text. text.now)) in
      rw (lt-ltb max_caveats (length pass.caveats + length (texts xs)) total) refl
  one_refused Memory h full within = tt
  one_refused _ h full within = absurd h

pub counted_on : (r : Result Unit FormFault) (n : ℕ) → IsOk r → (max_caveats ≤ n → r ≡ Err TooMany) → n < max_caveats
counted_on r n ok full = grind (arith, full)

pub grown : (caveat : List ℕ) (pass now : Plain) → now ≡ with_caveat caveat pass → length now.caveats ≡ length pass.caveats + 1
grown caveat pass now added = ap (λ (p : Plain). length p.caveats) added ∙ length-append pass.caveats (caveat ∷ [])

pub raw_values_read : (options : Found) (id : Text) (given : Option (List Text)) → given ≡ option_map raw_values (matched_of options id)
    → unwrap_or given [] ≡ unwrap_or (all_of id (rows_of options)) []
raw_values_read options id given is = ap (λ o. unwrap_or o []) (is ∙ raw_values-rows options id)

prefix_map : (p : Text → Bool) (xs : List (Bor Text)) → prefix_len p (map (λ text. text.now) xs) ≡ prefix_len (λ text. p text.now) xs
prefix_map p [] = refl
prefix_map p (x ∷ xs) = ap (λ n. cond (p x.now) (1 + n) 0) (prefix_map p xs)

pub place_map : (p : Text → Bool) (xs : List (Bor Text)) → position p (map (λ text. text.now) xs) ≡ position (λ text. p text.now) xs
place_map p xs = rw (length-map xs (λ text. text.now), prefix_map (λ text. not (p text)) xs) refl

module _ {A B : Type 0} (step : Results A) (rest : A → Results B) where
  pub fails : (fault : FormFault) → UnlessMemory step (Err fault) → UnlessMemory (step >>= rest) (Err fault)
  fails Memory is = tt
  fails fault is = (Err fault, is, refl)

  pub goes_on : (value : A) (answer : Result B FormFault) → step (Ok value) → UnlessMemory (rest value) answer → UnlessMemory (step >>= rest) answer
  goes_on value (Err Memory) is next = tt
  goes_on value answer is next = (Ok value, is, next)

-- The step has at most one result.
abbrev pub HasOne : {A : Type 0} → Results A → Type 0
HasOne {A} step = (one other : Result A FormFault) → step one → step other → one ≡ other

pub one_only : {A : Type 0} (expected : Result A FormFault) → HasOne (IsOnly expected)
one_only expected one other is same = sym is ∙ same

pub one_then : {A B : Type 0} (step : Results A) (rest : A → Results B) → HasOne step → ((value : A) → HasOne (rest value)) → HasOne (step >>= rest)
one_then {A} {B} step rest first next one other p q =
    go p.0 p.2 (rw (first q.0 p.0 q.1 p.1) at q.2)
  where
    go : (result : Result A FormFault) → MatchResult result (λ value. rest value one) (λ fault. one ≡ Err fault)
        → MatchResult result (λ value. rest value other) (λ fault. other ≡ Err fault) → one ≡ other
    go (Ok value) h k = next value one other h k
    go (Err fault) h k = h ∙ sym k

module _ (command : Command) (left left' held held' : Option (List ℕ)) (bytes : List ℕ) (reads : ReadsInput (reads_input command) left left' bytes) where
  module _ (ending : OutcomeText) (is : IsAnswer command bytes (Ok ending)) where
    written : (outcome : Outcome) (text front : List ℕ) → outcome ≡ ending.0 → text ≡ ending.1 → Appends held held' front
        → Writes command left left' held held' (outcome, text) front
    written outcome text front outcome_is text_is appends = rw (outcome_is, text_is) (record { bytes = bytes; reads = reads; answers = is; appends = appends })

    pub performed : (outcome : Outcome) (text : List ℕ) → outcome ≡ ending.0 → text ≡ ending.1 → Appends held held' text
        → Performs command left left' held held' (Ok outcome)
    performed outcome text outcome_is text_is appends = (text, written outcome text text outcome_is text_is appends)

    pub begun : (text : List ℕ) → text ≡ ending.1 → AppendsFront held held' text → WritesFront command left left' held held'
    begun text text_is appends = ((ending.0, text), appends.0, appends.1, written ending.0 text appends.0 refl text_is appends.2)

  pub failed : (fault : FormFault) → UnlessMemory (IsAnswer command bytes) (Err fault) → Performs command left left' held held' (Err (Pass fault))
  failed Memory is = tt
  failed fault is = (bytes, reads, is)

module _ (once : AskForOneCommand) (arguments : List Text) (command : Command) (ask : AskForCommand arguments command) where
  pub performs_arguments : (left left' held held' : Option (List ℕ)) (result : Result Outcome Fault) → Performs command left left' held held' result
      → AnswersArguments arguments result
  performs_arguments left left' held held' (Ok Done) is = inl (command, ask)
  performs_arguments left left' held held' (Err (Pass Memory)) is = tt
  performs_arguments left left' held held' (Err InputOutput) is = inl (command, ask)
  performs_arguments left left' held held' (Ok outcome) is = (command, ask)
  performs_arguments left left' held held' (Err (Pass fault)) is = (command, ask)
  performs_arguments left left' held held' result is = absurd is

  pub performs_alone : (left left' held held' : Option (List ℕ)) (result : Result Outcome Fault) (other : Command) → AskForCommand arguments other
      → Performs command left left' held held' result → Performs other left left' held held' result
  performs_alone left left' held held' result other asked is = elim (once arguments other (Ok (Perform command)) asked ask) [
    | inl same ↦ let one : other ≡ command = cc in rw one is
    | inr none ↦ cc
  ]

pub refused_arguments : (arguments : List Text) (fault : ArgumentsFault OurBadValue) → ReadsArguments arguments (Err fault)
    → AnswersArguments arguments (Err (of_arguments fault))
refused_arguments arguments OutOfMemory is = tt
refused_arguments arguments (BadValue Root) is = is
refused_arguments arguments fault is = is

module _ (once : AskForOneCommand) (arguments : List Text) (fault : ArgumentsFault OurBadValue) (read : ReadsArguments arguments (Err fault)) where
  pub refused_alone : (left left' held held' : Option (List ℕ)) (command : Command) → AskForCommand arguments command
      → Performs command left left' held held' (Err (of_arguments fault))
  refused_alone left left' held held' command ask = elim (once arguments command (Err fault) ask read) [
    | inl same ↦ cc
    | inr none ↦ let out : fault ≡ OutOfMemory = cc in rw out tt
  ]

narrowed_to : (caveats : List (List ℕ)) (pass narrowed_pass : Plain) → narrowing caveats pass ≡ Ok narrowed_pass → with_caveats caveats pass ≡ narrowed_pass
unfolding narrowing
narrowed_to caveats pass narrowed_pass h = grind (arith, nat_tests, h)

pub narrowing_keeps_signed : NarrowingKeepsSigned
narrowing_keeps_signed root caveats pass narrowed_pass signed made =
    rw (← narrowed_to caveats pass narrowed_pass made)
    (ap (λ (s : List ℕ). extended_signature s caveats) signed ∙ sym (fold-append hmac (hmac (derived_key root) pass.identifier) pass.caveats caveats))

pub mint_signs : MintSigns
mint_signs minting pass made = narrowing_keeps_signed minting.root minting.caveats (new_pass minting) pass refl made

one_verdict : (root : List ℕ) (pass : Plain) → HasOne (IsVerdict root pass)
one_verdict root pass (Ok (Done, text)) (Ok (NotSigned, other)) p q = absurd (q.0 p.0)
one_verdict root pass (Ok (NotSigned, text)) (Ok (Done, other)) p q = absurd (p.0 q.0)
one_verdict root pass (Ok (outcome, text)) (Ok (_, other)) p q = ap (λ (t : List ℕ). let answer : OutcomeText = (outcome, t) in Ok answer) (p.1 ∙ sym q.1)
one_verdict root pass (Err fault) other p q = absurd p
one_verdict root pass one (Err fault) p q = absurd q

module _ (readings : OneReadingEachText) where
  one_pass_read : (bytes : List ℕ) → HasOne (ReadsPass bytes)
  one_pass_read bytes = readings (strip_last 10 bytes)

  module _ (writings : OneWritingEachForm) where
    one_pass_written : (form : Form) (pass : Plain) → HasOne (WritesPass form pass)
    one_pass_written form pass = one_then _ _ (writings form pass) (λ text one other p q. sym p.0 ∙ q.0)

    pub answers_once : AnswersOnce
    answers_once (Mint minting) bytes = one_then _ _ (one_only (narrowing minting.caveats (new_pass minting))) (λ pass. one_pass_written minting.form pass)
    answers_once Show bytes = one_then _ _ (one_pass_read bytes) (λ read. one_only (Ok (Done, listing_text read.0 read.1)))
    answers_once (Narrow caveats) bytes =
        one_then _ _ (one_pass_read bytes) (λ read. one_then _ _ (one_only (narrowing caveats read.1)) (λ pass. one_pass_written read.0 pass))
    answers_once (Convert form) bytes = one_then _ _ (one_pass_read bytes) (λ read. one_pass_written form read.1)
    answers_once (Verify root) bytes = one_then _ _ (one_pass_read bytes) (λ read. one_verdict root read.1)

  pub verify_decides_signed : VerifyDecidesSigned
  verify_decides_signed root bytes form pass read =
      let answer : OutcomeText = (Done, with_line_feed (codes "signed")) in (
        λ is. let verdict : IsVerdict root pass (Ok answer) = rw (one_pass_read bytes is.0 (Ok (form, pass)) is.1 read) at is.2 in verdict.0,
        λ signed. (Ok (form, pass), read, (signed, refl)),
      )

fault_of_writing : (IsText : Plain → List ℕ → Type 0) (pass : Plain) (fault : FormFault) → IsWriteFault IsText pass fault
    → UnlessMemory (IsWriting IsText pass) (Err fault)
fault_of_writing IsText pass Memory is = tt
fault_of_writing IsText pass fault is = search rules

refused_writing : (form : Form) (pass : Plain) (fault : FormFault) → IsRefusedIn form pass fault → UnlessMemory (IsWriting (IsTextIn form) pass) (Err fault)
refused_writing V1 pass fault is = fault_of_writing IsV1Text pass fault is
refused_writing V2 pass fault is = fault_of_writing IsV2Text pass fault is
refused_writing Json pass Memory is = tt
refused_writing Json pass fault is = fault_of_writing IsJsonText pass fault is

pub refused : (form : Form) (pass : Plain) (fault : FormFault) → IsRefusedIn form pass fault → UnlessMemory (WritesPass form pass) (Err fault)
refused form pass fault is = fails _ (AnswersText form pass) fault (refused_writing form pass fault is)

pub written_text : (form : Form) (pass : Plain) (text : List ℕ) (ending : OutcomeText) → IsWritableText (IsTextIn form) pass text
    → IsAnyReading text (Ok (form, pass)) → ending ≡ (Done, with_line_feed text) → WritesPass form pass (Ok ending)
written_text form pass text ending is reads ending_is =
    let off : strip_last 10 (with_line_feed text) ≡ text = grind (arith, common_steps) in
    (Ok text, is, (ap Ok (sym ending_is), rw off reads))
