-- Lemmas for the proof that reading a text, in JSON or in any form, has exactly one result. It is
-- the result for the bytes that the text wraps.
use Rattle.pass_forms.specs.computed.V1Reading as v1
use Rattle.pass_forms.specs.computed.V2Reading as v2
use Rattle.std.proofs.Common.{ℕ, ◌<◌, ◌≤◌, Result, arith, ◌≡◌, ◌↔◌, List, length, Some, Ok, Err, Bool, None, Option, [], ap, codes, cond, refl, sym, true, ◌&&◌}
use Rattle.std.proofs.{Common.{◌∷◌, ◌∙◌, Contains, inl, inr, ◌⊎◌}, lemmas.{Bool.{eq-eqb, Decides.nat_tests}, Cmp.nat_list_eq_equiv, Map.Text.is_eq-slice_cmp}}
use Rattle.std.proofs.lemmas.{Map.Views.{Contains-from_any, list_any-from_Contains}, Slice.Eq.bytes_eq-Decides, Str.{IsUtf8-from_is_utf8, is_utf8-from_IsUtf8}}
use Rattle.std.specs.{Cmp.Lexicographic.slice_cmp, Option.{unwrap_or, IsSome}, Ordering.{is_eq, match_ordering, nat_cmp}, Str.{IsUtf8, is_utf8}}
use Rattle.std.specs.declared.cmp.Ordering.{Ordering}
use Rattle.pass_forms.specs.{Envelope.{SpellsText, IsTextReading, IsBase64, IsUnwrapped, Wraps}, Laws.{ReadsTextsExactly, ComputesSpelled, AnswersExactly}}
use Rattle.pass_forms.specs.{Laws.{FromBase64IsBase64, WrapsOne, TextsReadBack, WritesExactly}, Pass.{Plain, WidePass, WideCaveat, as_wide_pass}}
use Rattle.pass_forms.specs.{Reading.{IsReadAs, UnlessMemory, max_text_len}, V1.SpellsV1, V2.SpellsV2, Writing.{FailsAs, HasBytes, IsReadBack, IsWritableText}}
use Rattle.pass_forms.specs.{Writing.{IsWriting, v1_bytes, v2_bytes}, computed.Parts.◌>>=◌, declared.fault.FormFault.{FormFault, TheVariants.TooLong}}
use Rattle.pass_forms.specs.declared.{fault.FormFault.TheVariants.Malformed, form.Form.{Form, TheVariants.{Json, V1, V2}}}
use Rattle.pass_json.specs.{AnyForm.{SpellsForm, IsAnyReading, IsReadingInForm, MayRunOut, IsTextIn}, Json.{SpellsJson, AreCaveats, HasOnly, IsCaveatList}}
use Rattle.pass_json.specs.{Json.{IsCaveatObject, IsPass, IsVersion, caveat_names, pass_names, IsField}, JsonWriting.MayFailAs, Laws.OneReadingEachText}
use Rattle.pass_json.specs.{Laws.{JsonReadsBack, WritesJsonExactly}, computed.{AnyForm.{reading, wide_in, writing}, JsonReading.{wide_json, caveat_from}}}
use Rattle.pass_json.specs.computed.JsonReading.{caveat_list, caveats_of, field_from, has_only_names, is_version, must_have, of_length, pass_from, reading_json}
use Rattle.pass_json.specs.computed.JsonReading.{signature_from, value_of, decoded_text, field_bytes, only_among}
use Rattle.serde_json.specs.{Data.{Data, Items, Members, item, member, no_members, string}, Find.{get, get_member}, Read.read}

abbrev pub Spelling : Type 1
Spelling = WidePass → Type 0

pub same_answer : (One Other : Spelling) → ((wide : WidePass) → One wide → Other wide) → ((wide : WidePass) → Other wide → One wide)
    → (len other : ℕ) → (len ≤ max_text_len → other ≤ max_text_len) → (max_text_len < len → max_text_len < other)
    → (answer : Result Plain FormFault) → IsReadAs len One answer → IsReadAs other Other answer
same_answer One Other to from len other short long answer h = grind (arith, to, from)

pub unless_memory : {A : Type 0} (Holds Other : Result A FormFault → Type 0) (answer : Result A FormFault)
    → ((a : Result A FormFault) → Holds a → Other a) → UnlessMemory Holds answer → UnlessMemory Other answer
unless_memory Holds Other answer to h = grind (arith, to)

abbrev Relation : Type 1
Relation = Form → List ℕ → WidePass → Type 0

same_in : (One Other : Relation) → ((form : Form) (bytes : List ℕ) (wide : WidePass) → One form bytes wide → Other form bytes wide)
    → (text : List ℕ) (form : Form) (wide : WidePass) → SpellsText One text form wide → SpellsText Other text form wide
same_in One Other to text form wide h = (h.0, h.1, to form h.0 wide h.2)

same_reading : (One Other : Relation) → ((form : Form) (bytes : List ℕ) (wide : WidePass) → One form bytes wide → Other form bytes wide)
    → ((form : Form) (bytes : List ℕ) (wide : WidePass) → Other form bytes wide → One form bytes wide)
    → (text : List ℕ) (answer : Result (Form × Plain) FormFault) → IsTextReading One text answer → IsTextReading Other text answer
same_reading One Other to from text (Ok (form, pass)) h =
    same_answer (SpellsText One text form) (SpellsText Other text form) (same_in One Other to text form) (same_in Other One from text form) (length text)
    (length text) (λ k. k) (λ k. k) (Ok pass) h
same_reading One Other to from text (Err fault) h =
    same_answer (λ wide. (form : Form) × SpellsText One text form wide) (λ wide. (form : Form) × SpellsText Other text form wide)
    (λ wide k. (k.0, same_in One Other to text k.0 wide k.1)) (λ wide k. (k.0, same_in Other One from text k.0 wide k.1)) (length text) (length text)
    (λ k. k) (λ k. k) (Err fault) h

abbrev Computed : Relation
Computed form bytes wide = wide_in form bytes ≡ Some wide

module _ (packets : ComputesSpelled SpellsV1 v1.wide_at) (sections : ComputesSpelled SpellsV2 v2.wide_at)
    (json : ComputesSpelled SpellsJson wide_json) (texts : ReadsTextsExactly) where
  in_each : (form : Form) (bytes : List ℕ) (wide : WidePass) → SpellsForm form bytes wide ↔ Computed form bytes wide
  unfolding wide_in
  in_each form bytes wide = grind (arith, packets, sections, json)

  pub reading_exact : (text : List ℕ) (answer : Result (Form × Plain) FormFault) → IsAnyReading text answer ↔ (reading text ≡ answer)
  unfolding reading
  reading_exact text answer =
      let to = λ (form : Form) (b : List ℕ) (wide : WidePass). (in_each form b wide).0 in
      let from = λ (form : Form) (b : List ℕ) (wide : WidePass). (in_each form b wide).1 in
      let exact = texts wide_in text answer in
      (λ h. exact.0 (same_reading SpellsForm Computed to from text answer h), λ e. same_reading Computed SpellsForm from to text answer (exact.1 e))

  pub one_reading : OneReadingEachText
  one_reading text one other p q = grind (arith, reading_exact text)

module _ (law : FromBase64IsBase64) where
  decoded : (value : Data) (bytes : List ℕ) → (decoded_text value ≡ Some bytes) ↔ ((text : List ℕ) × (value ≡ string text) × IsBase64 text bytes)
  decoded (string text) bytes = grind (arith, law text bytes)
  decoded value bytes = grind arith

  field_by : (plain base64 : List ℕ) (value : Data) (one other : Option Data) (t : Option (List ℕ)) → get plain value ≡ one
      → get base64 value ≡ other → (field_bytes one other ≡ Some t) ↔ IsField plain base64 value t
  field_by plain base64 value None None t e k = grind arith
  field_by plain base64 value (Some one) None t e k = grind arith
  field_by plain base64 value None (Some other) None e k = grind arith
  field_by plain base64 value None (Some other) (Some bytes) e k = grind (arith, decoded other bytes)
  field_by plain base64 value (Some one) (Some other) t e k = grind arith

module _ (law : FromBase64IsBase64) (plain base64 : List ℕ) (value : Data) where
  field_takes : (t : Option (List ℕ)) → field_from plain base64 value ≡ Some t → IsField plain base64 value t
  unfolding field_from
  field_takes t e = (field_by law plain base64 value (get plain value) (get base64 value) t refl refl).0 e

  field_again : (t : Option (List ℕ)) → IsField plain base64 value t → field_from plain base64 value ≡ Some t
  unfolding field_from
  field_again t h = (field_by law plain base64 value (get plain value) (get base64 value) t refl refl).1 h

  required_takes : (bytes : List ℕ) → must_have (field_from plain base64 value) ≡ Some bytes → IsField plain base64 value (Some bytes)
  required_takes bytes e = field_takes (Some bytes) (grind arith)

found_at : (order : Ordering) (later : Option Data) (value : Data) → IsSome (match_ordering order later (Some value) later) ↔
    ((is_eq order ≡ true) ⊎ IsSome later)
found_at order later value = grind arith

only_takes : (names : List (List ℕ)) (members : Members) → only_among names members ≡ true → (name : List ℕ) → IsSome (get_member name members) →
    Contains names name
only_takes names no_members e name found = absurd cc
only_takes names (member key value members) e name found = elim ((found_at (slice_cmp nat_cmp name key) (get_member name members) value).0 found) [
  | inl here ↦
      let same : name ≡ key = (bytes_eq-Decides name key).0 (sym (is_eq-slice_cmp name key) ∙ here) in
      rw same (Contains-from_any (λ a b. (bytes_eq-Decides a b).0) key names (grind arith))
  | inr later ↦ only_takes names members (grind arith) name later
]

only_again : (names : List (List ℕ)) (members : Members) → ((name : List ℕ) → IsSome (get_member name members) → Contains names name) →
    only_among names members ≡ true
only_again names no_members h = refl
only_again names (member key value members) h =
    let found = λ (name : List ℕ). (found_at (slice_cmp nat_cmp name key) (get_member name members) value).1 in
    let here : Contains names key = h key (found key (inl (is_eq-slice_cmp key key ∙ (bytes_eq-Decides key key).1 refl))) in
    rw (list_any-from_Contains nat_list_eq_equiv key names here) (only_again names members (λ name later. h name (found name (inr later))))

has_only_takes : (names : List (List ℕ)) (value : Data) → has_only_names names value ≡ true → HasOnly names value
unfolding has_only_names
has_only_takes names value e = grind (arith, only_takes)

has_only_again : (names : List (List ℕ)) (plain base64 : List ℕ) (value : Data) (bytes : List ℕ) → IsField plain base64 value (Some bytes)
    → HasOnly names value → has_only_names names value ≡ true
unfolding has_only_names
has_only_again names plain base64 value bytes field h = grind (arith, only_again)

version_exact : (found : Option Data) → (is_version found ≡ true) ↔ IsVersion found
version_exact found = grind (arith, nat_tests)

value_takes : (bytes : List ℕ) (test : Bool) (value : Data) → is_utf8 bytes ≡ test → cond test (read bytes) None ≡ Some value →
    IsUtf8 bytes × (read bytes ≡ Some value)
value_takes bytes test value utf8 e = grind (arith, IsUtf8-from_is_utf8)

module _ (law : FromBase64IsBase64) where
  caveat_takes : (value : Data) (caveat : WideCaveat) → caveat_from value ≡ Some caveat → IsCaveatObject value caveat
  unfolding caveat_from
  caveat_takes value caveat e = grind (arith, has_only_takes, required_takes law, field_takes law)

  caveat_again : (value : Data) (caveat : WideCaveat) → IsCaveatObject value caveat → caveat_from value ≡ Some caveat
  unfolding caveat_from
  caveat_again value caveat is =
      rw (
        has_only_again caveat_names (codes "i") (codes "i64") value caveat.identifier is.identifier is.names,
        ap must_have (field_again law (codes "i") (codes "i64") value (Some caveat.identifier) is.identifier),
        field_again law (codes "v") (codes "v64") value caveat.verifier_id is.verifier_id,
        field_again law (codes "l") (codes "l64") value caveat.location is.location,
      ) refl

  caveats_exact : (items : Items) (caveats : List WideCaveat) → (caveats_of items ≡ Some caveats) ↔ AreCaveats items caveats
  unfolding caveats_of
  caveats_exact (item value values) (caveat ∷ caveats) =
      let rest = caveats_exact values caveats in
      (λ e. grind (arith, caveat_takes value, caveats_exact values), λ h. rw (caveat_again value caveat h.0, rest.1 h.1) refl)
  caveats_exact items caveats = grind arith

  listed_exact : (found : Option Data) (caveats : List WideCaveat) → (caveat_list found ≡ Some caveats) ↔ IsCaveatList found caveats
  listed_exact found caveats = grind (arith, caveats_exact)

  sized : (found : Option (List ℕ)) (bytes : List ℕ) → ((found >>= of_length 32) ≡ Some bytes) ↔ ((found ≡ Some bytes) × (length bytes ≡ 32))
  sized found bytes = grind (arith, nat_tests)

  pass_parts : (names version : Bool) (value : Data) (location : Option (Option (List ℕ))) (identifier signature : Option (List ℕ))
      (caveats : Option (List WideCaveat)) (wide : WidePass) → (cond (names && version) (Some value) None >>= (λ _. location >>= (λ l. identifier >>= (λ i.
      caveats >>= (λ c. signature >>= (λ s. Some (record { location = unwrap_or l []; identifier = i; caveats = c; signature = s })))))))
      ≡ Some wide → (names ≡ true) × (version ≡ true) × ((l : Option (List ℕ)) × (location ≡ Some l) × (wide.location ≡ unwrap_or l []))
      × (identifier ≡ Some wide.identifier) × (caveats ≡ Some wide.caveats) × (signature ≡ Some wide.signature)
  pass_parts names version value location identifier signature caveats wide e = grind arith

  pub pass_takes : (value : Data) (wide : WidePass) → pass_from value ≡ Some wide → IsPass value wide
  unfolding pass_from
  pass_takes value wide e =
      let p = pass_parts (has_only_names pass_names value) (is_version (get (codes "v") value)) value (field_from (codes "l") (codes "l64") value)
      (must_have (field_from (codes "i") (codes "i64") value)) (signature_from value) (caveat_list (get (codes "c") value)) wide e in
      let signed = (sized (must_have (field_from (codes "s") (codes "s64") value)) wide.signature).0 p.5 in record {
        names = has_only_takes pass_names value p.0;
        version = (version_exact (get (codes "v") value)).0 p.1;
        location = p.2.0;
        is_location = field_takes law (codes "l") (codes "l64") value p.2.0 p.2.1;
        location_is = p.2.2;
        identifier = required_takes law (codes "i") (codes "i64") value wide.identifier p.3;
        caveats = (listed_exact (get (codes "c") value) wide.caveats).0 p.4;
        signature = required_takes law (codes "s") (codes "s64") value wide.signature signed.0;
        signature_len = signed.1;
      }

  pass_again : (value : Data) (wide : WidePass) → IsPass value wide → pass_from value ≡ Some wide
  unfolding pass_from
  pass_again value wide is =
      rw (
        has_only_again pass_names (codes "i") (codes "i64") value wide.identifier is.identifier is.names,
        (version_exact (get (codes "v") value)).1 is.version,
        field_again law (codes "l") (codes "l64") value is.location is.is_location,
        ap must_have (field_again law (codes "i") (codes "i64") value (Some wide.identifier) is.identifier),
        (listed_exact (get (codes "c") value) wide.caveats).1 is.caveats,
        ap must_have (field_again law (codes "s") (codes "s64") value (Some wide.signature) is.signature),
        eq-eqb (length wide.signature) 32 is.signature_len,
        ← is.location_is,
      ) refl

  pub json_takes : (bytes : List ℕ) (wide : WidePass) → wide_json bytes ≡ Some wide → SpellsJson bytes wide
  unfolding wide_json value_of
  json_takes bytes wide e = grind (arith, value_takes, pass_takes)

  pub json_again : (bytes : List ℕ) (wide : WidePass) → SpellsJson bytes wide → wide_json bytes ≡ Some wide
  unfolding wide_json value_of
  json_again bytes wide h = rw (is_utf8-from_IsUtf8 bytes h.utf8, h.is_read) (pass_again h.value wide h.is_pass)

  pub one_json : (bytes : List ℕ) (one other : WidePass) → SpellsJson bytes one → SpellsJson bytes other → one ≡ other
  one_json bytes one other h k =
      let same : ◌≡◌ {A = Option WidePass} (Some one) (Some other) = sym (json_again bytes one h) ∙ json_again bytes other k in
      cc

  pub reading_json_exact : AnswersExactly → (bytes : List ℕ) (answer : Result Plain FormFault) →
      IsReadAs (length bytes) (SpellsJson bytes) answer ↔ (reading_json bytes ≡ answer)
  unfolding reading_json
  reading_json_exact exact bytes answer =
      let Computed = λ (wide : WidePass). wide_json bytes ≡ Some wide in
      let both = exact (length bytes) (wide_json bytes) answer in (
        λ h. both.0 (same_answer (SpellsJson bytes) Computed (json_again bytes) (json_takes bytes) (length bytes) (length bytes) (λ k. k) (λ k. k) answer h),
        λ e. same_answer Computed (SpellsJson bytes) (json_takes bytes) (json_again bytes) (length bytes) (length bytes) (λ k. k) (λ k. k) answer (both.1 e),
      )

pub refused_wrapping : (text : List ℕ) (fault : FormFault) → IsUnwrapped text (Err fault) → IsAnyReading text (Err fault)
refused_wrapping text TooLong h = h
refused_wrapping text Malformed h = (h.0, λ wide k. h.1 k.0 k.1.0 k.1.1)
refused_wrapping text fault h = absurd h

pub reads_back : (text : List ℕ) (form : Form) (bytes : List ℕ) (pass : Plain) → IsUnwrapped text (Ok (form, bytes)) →
    IsReadAs (length bytes) (SpellsForm form bytes) (Ok pass) → IsAnyReading text (Ok (form, pass))
reads_back text form bytes pass content read = (content.0, (bytes, content.1, read.1), read.2)

spelled : WrapsOne → (text bytes : List ℕ) (form other : Form) (wide : WidePass) → Wraps text form bytes → SpellsText SpellsForm text other wide →
    (other ≡ form) × SpellsForm form bytes wide
spelled one text bytes form other wide wraps h = grind (arith, one text other form h.0 bytes h.1 wraps)

abbrev SpellsAny : List ℕ → Spelling
SpellsAny text wide = (form : Form) × SpellsText SpellsForm text form wide

pub reads_wrapped : WrapsOne → (text bytes : List ℕ) (form : Form) (answer : Result (Form × Plain) FormFault) → IsUnwrapped text (Ok (form, bytes)) →
    length bytes ≤ max_text_len → IsAnyReading text answer ↔ IsReadingInForm form bytes answer
reads_wrapped one text bytes form (Ok (other, pass)) content short = (
  λ h.
      let its = spelled one text bytes form other (as_wide_pass pass) content.1 h.1 in
      (its.0, (short, its.1, h.2)),
  λ h. rw h.0 (reads_back text form bytes pass content h.1),
)
reads_wrapped one text bytes form (Err fault) content short =
    let Here : Spelling = SpellsForm form bytes in
    let to = λ (wide : WidePass) (k : SpellsAny text wide). (spelled one text bytes form k.0 wide content.1 k.1).1 in
    let from : (wide : WidePass) → Here wide → SpellsAny text wide = λ wide k. (form, (bytes, content.1, k)) in (
      λ h. same_answer (SpellsAny text) Here to from (length text) (length bytes) (λ _. short) (λ long. absurd (omega arith)) (Err fault) h,
      λ h. same_answer Here (SpellsAny text) from to (length bytes) (length text) (λ _. content.0) (λ long. absurd (omega arith)) (Err fault) h,
    )

pub may_run_out : (text : List ℕ) (form : Form) (bytes : List ℕ) → IsUnwrapped text (Ok (form, bytes))
    → ((pass : Plain) × IsReadAs (length bytes) (SpellsForm form bytes) (Ok pass)) ⊎ (form ≡ Json) → MayRunOut text
may_run_out text form bytes content (inl read) = inl ((form, read.0), reads_back text form bytes read.0 content read.1)
may_run_out text form bytes content (inr is) = grind arith

back_from : (form : Form) (bytes : List ℕ) (pass : Plain) (text : List ℕ) → IsReadBack (SpellsForm form) form bytes pass text →
    IsAnyReading text (Ok (form, pass))
back_from form bytes pass text back = reads_back text form bytes pass back.content back.read

pub may_fail : (writing : Result (List ℕ) FormFault) (fault : FormFault) → FailsAs writing fault → MayFailAs writing fault
may_fail writing fault h = grind arith

pub one_text : (form : Form) (pass : Plain) (one other : List ℕ) → IsTextIn form pass one → IsTextIn form pass other → one ≡ other
one_text form pass one other h k = grind arith

pub in_any_form : TextsReadBack → JsonReadsBack → (form : Form) (pass : Plain) (text : List ℕ) → HasBytes pass → IsWritableText (IsTextIn form) pass text →
    IsAnyReading text (Ok (form, pass))
in_any_form texts json V1 pass text are written = back_from V1 (v1_bytes pass) pass text ((texts pass text are).0 written)
in_any_form texts json V2 pass text are written = back_from V2 (v2_bytes pass) pass text ((texts pass text are).1 written)
in_any_form texts json Json pass text are written = back_from Json text pass text (json pass text written)

pub exact_in_any_form : WritesExactly → WritesJsonExactly → (form : Form) (pass : Plain) (answer : Result (List ℕ) FormFault) → HasBytes pass
    → length pass.signature ≡ 32 → (writing form pass ≡ answer) ↔ IsWriting (IsTextIn form) pass answer
unfolding writing
exact_in_any_form others json V1 pass answer are len = (others pass answer len).0
exact_in_any_form others json V2 pass answer are len = (others pass answer len).1
exact_in_any_form others json Json pass answer are len = json pass answer are len
