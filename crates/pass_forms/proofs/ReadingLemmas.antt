-- Lemmas for the proof that reading a text, in V1 or V2, has exactly one result. A reader scans
-- the header, the caveats one by one, and the signature of a pass.
use Rattle.std.proofs.{Common.{Bool, option_map, ◌||◌, Global, Vec, false, is_some, fold}, lemmas.{Bool.or_parts, List.{length-map, Concat.flat_map-cons}}}
use Rattle.std.{proofs.lemmas.Slice.Eq.bytes_eq-Decides, specs.{List.list_any, Prelude.IsTrue, Str.bytes_eq}}
use Rattle.pass_forms.proofs.Common.{List, None, Option, Some, [], arith, length, refl, suc, zero, ℕ, ◌+◌, ◌≡◌, WideCaveat, caveats_at, drop, flat_map, map}
use Rattle.pass_forms.proofs.Common.{◌≤◌, ◌∷◌, ◌++◌, sym, ap, ◌∙◌, subst, AllByRecursion, length-append, common_steps, ◌↔◌, ltb, Result, Ok, Err, le-ltb}
use Rattle.pass_forms.proofs.Common.{lt-ltb, FormFault, TooLong, Malformed, ComputesSpelled, Plain, WidePass, max_text_len, nat_tests, append_assoc, append-nil}
use Rattle.pass_forms.specs.FieldSource.{PassField, caveat_field, signature_field, with_fields, location_field, identifier_field, AreSignedBy}
use Rattle.pass_forms.specs.{Envelope.{Wraps, SpellsText, IsTextReading}, computed.Reading.{checked_if_any, reading_of, in_form, reading_in, text_reading}}
use Rattle.pass_forms.{proofs.Common.{rules, Form, IsUnwrapped, unwrapping}, specs.Pass.{is_third_party, widened_caveat, as_wide_pass, first_party_caveat}}
use Rattle.pass_forms.{proofs.Base64Lemmas.{wraps_one, unwrapped_answers}, specs.computed.Parts.{and_others, summary, whole_at, ◌>>=◌, last_signature}}
use Rattle.pass_forms.specs.{Laws.OnePassEach, Reading.{max_caveats, IsReadAs}, declared.fault.FormFault.TheVariants.{ThirdParty, TooMany, Memory}}
use Rattle.pass_mac.specs.Hmac.{hmac}

abbrev pub Reader : Type 0
Reader = List ℕ → Option (WideCaveat × List ℕ)

-- A list of caveats, and the bytes after the last caveat.
abbrev pub Run : Type 0
Run = List WideCaveat × List ℕ

-- The invariant of a scan over the caveats in `whole`. The caveats in `left` are not scanned yet.
-- `count` is the number of scanned caveats. `third_party` records whether a scanned caveat is a
-- third-party caveat.
pub record Keeps (count : ℕ) (third_party : Bool) (left whole : Run) : Type 0 where
  pub count_is : count + length left.0 ≡ length whole.0
  pub any : (third_party || list_any is_third_party left.0) ≡ list_any is_third_party whole.0
  pub after : left.1 ≡ whole.1

module _ (at : Reader) where
  pub one_more : (fuel less : ℕ) (rest : List ℕ) → fuel ≡ suc less → caveats_at at fuel rest ≡ and_others (caveats_at at less) rest (at rest)
  unfolding caveats_at
  one_more fuel less rest e = rw e refl

  pub no_more : (rest : List ℕ) → caveats_at at 0 rest ≡ ([], rest)
  unfolding caveats_at
  no_more rest = refl

  pub none_follow : (fuel : ℕ) (rest : List ℕ) → option_map summary None ≡ option_map summary (at rest) → caveats_at at fuel rest ≡ ([], rest)
  unfolding caveats_at
  none_follow fuel rest content = grind arith

  pub as_many : (n : ℕ) (bytes : List ℕ) → caveats_at at (length (caveats_at at n bytes).0) bytes ≡ caveats_at at n bytes
  unfolding caveats_at
  as_many zero bytes = refl
  as_many (suc n) bytes = elim (at bytes) as (λ read. at bytes ≡ read →
      caveats_at at (length (and_others (caveats_at at n) bytes read).0) bytes ≡ and_others (caveats_at at n) bytes read) [
        | None ↦ λ e. refl
        | Some found ↦ λ e. rw (e, as_many n found.1) refl
      ] refl

-- Returns the bytes of all caveats from index `i` on. The function `text` returns the bytes of one
-- caveat.
abbrev pub left_from : (WideCaveat → List ℕ) → List (Vec ℕ Global) → ℕ → List ℕ
left_from text caveats i = flat_map text (map widened_caveat (map (λ caveat. caveat.items) (drop i caveats)))

-- `Exact at text Fits Ends` means that the parser `at` accepts exactly the bytes that `text`
-- returns for a caveat. `Fits` is the condition on the caveat, and `Ends` is the condition on the
-- bytes after the caveat.
pub record Exact (at : Reader) (text : WideCaveat → List ℕ) (Fits : WideCaveat → Type 0) (Ends : List ℕ → Type 0) : Type 0 where
  pub takes : (bytes : List ℕ) (found : WideCaveat × List ℕ) → at bytes ≡ Some found → (bytes ≡ text found.0 ++ found.1) × Fits found.0
  pub again : (caveat : WideCaveat) (rest : List ℕ) → Fits caveat → Ends rest → at (text caveat ++ rest) ≡ Some (caveat, rest)
  pub next : (caveat : WideCaveat) (rest : List ℕ) → Fits caveat → Ends (text caveat ++ rest)

regrouped : (text : WideCaveat → List ℕ) (caveat : WideCaveat) (caveats : List WideCaveat) (rest : List ℕ) →
    flat_map text (caveat ∷ caveats) ++ rest ≡ text caveat ++ (flat_map text caveats ++ rest)
regrouped text caveat caveats rest = grind (arith, common_steps, flat_map-cons)

module _ (at : Reader) (text : WideCaveat → List ℕ) (Fits : WideCaveat → Type 0) (Ends : List ℕ → Type 0) (exact : Exact at text Fits Ends) where
  pub caveats_take : (n : ℕ) (bytes : List ℕ) → (bytes ≡ flat_map text (caveats_at at n bytes).0 ++ (caveats_at at n bytes).1)
      × AllByRecursion Fits (caveats_at at n bytes).0
  unfolding caveats_at
  caveats_take zero bytes = (refl, tt)
  caveats_take (suc n) bytes = elim (at bytes) as (λ read. at bytes ≡ read →
      (bytes ≡ flat_map text (and_others (caveats_at at n) bytes read).0 ++ (and_others (caveats_at at n) bytes read).1)
      × AllByRecursion Fits (and_others (caveats_at at n) bytes read).0) [
        | None ↦ λ e. (refl, tt)
        | Some found ↦ λ e.
            let first = exact.takes bytes found e in
            let more = caveats_take n found.1 in
            let left = caveats_at at n found.1 in
            (first.0 ∙ ap (λ (x : List ℕ). text found.0 ++ x) more.0 ∙ sym (regrouped text found.0 left.0 left.1), (first.1, more.1))
      ] refl

  caveats_end : (caveats : List WideCaveat) (rest : List ℕ) → AllByRecursion Fits caveats → Ends rest → Ends (flat_map text caveats ++ rest)
  caveats_end [] rest fits ends = ends
  caveats_end (caveat ∷ caveats) rest fits ends =
      subst Ends (sym (regrouped text caveat caveats rest)) (exact.next caveat (flat_map text caveats ++ rest) fits.0)

  pub caveats_again : (n : ℕ) (caveats : List WideCaveat) (rest : List ℕ) → length caveats ≤ n → AllByRecursion Fits caveats → Ends rest → at rest ≡ None →
      caveats_at at n (flat_map text caveats ++ rest) ≡ (caveats, rest)
  unfolding caveats_at
  caveats_again zero [] rest h fits ends none = refl
  caveats_again (suc n) [] rest h fits ends none = rw none refl
  caveats_again zero (caveat ∷ caveats) rest h fits ends none = absurd (omega arith)
  caveats_again (suc n) (caveat ∷ caveats) rest h fits ends none =
      grind (arith, regrouped, caveats_end, caveats_again n caveats rest (omega arith) fits.1 ends none)

pub caveats_fit : (text : WideCaveat → List ℕ) → ((caveat : WideCaveat) → 1 ≤ length (text caveat)) → (caveats : List WideCaveat) →
    length caveats ≤ length (flat_map text caveats)
caveats_fit text long [] = omega arith
caveats_fit text long (caveat ∷ caveats) = grind (arith, length-append, caveats_fit text long caveats)

is_first_party : (identifier : List ℕ) (verifier_id location : Option (List ℕ)) → (is_some verifier_id || is_some location) ≡ false → ◌≡◌ {A = WideCaveat}
    (widened_caveat identifier) (record { identifier = identifier; verifier_id = verifier_id; location = location })
is_first_party identifier verifier_id location e = grind arith

all_first_party : (caveats : List WideCaveat) → list_any is_third_party caveats ≡ false → map widened_caveat (map first_party_caveat caveats) ≡ caveats
all_first_party [] e = refl
all_first_party (caveat ∷ caveats) e =
    let both = or_parts (is_third_party caveat) (list_any is_third_party caveats) e in
    cc (is_first_party caveat.identifier caveat.verifier_id caveat.location both.0, all_first_party caveats both.1)

first_party_caveats : (caveats : List (List ℕ)) → map first_party_caveat (map widened_caveat caveats) ≡ caveats
first_party_caveats [] = refl
first_party_caveats (caveat ∷ caveats) = ap (λ (cs : List (List ℕ)). caveat ∷ cs) (first_party_caveats caveats)

no_third_party : (caveats : List (List ℕ)) → list_any is_third_party (map widened_caveat caveats) ≡ false
no_third_party [] = refl
no_third_party (caveat ∷ caveats) = no_third_party caveats

-- `Computes Spelled computed` means that `computed` is the only wide pass that satisfies `Spelled`.
-- If no wide pass satisfies `Spelled`, `computed` is `None`.
abbrev pub Computes : (WidePass → Type 0) → Option WidePass → Type 0
Computes Spelled computed = (wide : WidePass) → Spelled wide ↔ (computed ≡ Some wide)

nothing_computed : (computed : Option WidePass) → ((wide : WidePass) → computed ≡ Some wide → ⊥) → computed ≡ None
nothing_computed computed none = grind arith

module _ (len : ℕ) (Spelled : WidePass → Type 0) where
  pub checked_if_any_is : (computed : Option WidePass) → Computes Spelled computed → len ≤ max_text_len → IsReadAs len Spelled (checked_if_any computed)
  checked_if_any_is computed exact within = grind (arith, nat_tests, common_steps, all_first_party)

  pub checked_determined : (computed : Option WidePass) (answer : Result Plain FormFault) → Computes Spelled computed → len ≤ max_text_len →
      IsReadAs len Spelled answer → checked_if_any computed ≡ answer
  checked_determined computed (Err TooLong) exact within h = absurd (omega arith)
  checked_determined computed (Err Malformed) exact within h = rw (nothing_computed computed (λ wide e. h.1 wide ((exact wide).1 e))) refl
  checked_determined computed (Err ThirdParty) exact within h = rw ((exact h.1).0 h.2, h.3) refl
  checked_determined computed (Err TooMany) exact within h = rw ((exact h.1).0 h.2, h.3, lt-ltb _ _ h.4) refl
  checked_determined computed (Ok pass) exact within h =
      let few : ltb max_caveats (length (map widened_caveat pass.caveats)) ≡ false = le-ltb _ _ (omega (arith, h.2, length-map pass.caveats widened_caveat)) in
      rw ((exact (as_wide_pass pass)).0 h.1, no_third_party pass.caveats, few) (ap (λ (p : Plain). Ok p) (grind (arith, first_party_caveats)))
  checked_determined computed (Err Memory) exact within h = absurd h

  reading_determined : (computed : Option WidePass) (answer : Result Plain FormFault) → Computes Spelled computed → IsReadAs len Spelled answer →
      reading_of len computed ≡ answer
  reading_determined computed (Err TooLong) exact h = rw (lt-ltb max_text_len len h) refl
  reading_determined computed (Err Memory) exact h = absurd h
  reading_determined computed answer exact h = rw (le-ltb max_text_len len h.0) (checked_determined computed answer exact h.0 h)

  pub exactly : (computed : Option WidePass) → Computes Spelled computed → (answer : Result Plain FormFault) →
      IsReadAs len Spelled answer ↔ (reading_of len computed ≡ answer)
  exactly computed exact answer =
      (reading_determined computed answer exact, λ e. subst (IsReadAs len Spelled) e (grind (arith, nat_tests, checked_if_any_is computed exact)))

pub one_each : (Spells : List ℕ → WidePass → Type 0) (wide_at : List ℕ → Option WidePass) → ComputesSpelled Spells wide_at → OnePassEach Spells
one_each Spells wide_at exact bytes one other h k = grind (arith, exact)

pub last_fields : (location identifier : List ℕ) (front caveats : List (List ℕ)) (before signature : List ℕ) →
    with_fields (record { location = location; identifier = identifier; caveats = front; signature = before })
    (map caveat_field caveats ++ signature_field signature ∷ [])
    ≡ record { location = location; identifier = identifier; caveats = front ++ caveats; signature = signature }
last_fields location identifier front [] before signature = grind (arith, append-nil)
last_fields location identifier front (caveat ∷ caveats) before signature =
    grind (arith, append_assoc, last_fields location identifier (front ++ caveat ∷ []) caveats before signature)

-- Makes a wide pass from a header, caveats and a signature.
abbrev pub made : List ℕ × List ℕ × List ℕ → List WideCaveat → List ℕ → WidePass
made header caveats signature = record { location = header.0; identifier = header.1; caveats = caveats; signature = signature }

-- `Parts` records that the parsed header, caveats and signature form the wide pass `wide`.
pub record Parts (header_at : List ℕ → Option (List ℕ × List ℕ × List ℕ)) (caveat_at : Reader) (footer_at : List ℕ → Option (List ℕ)) (bytes : List ℕ)
    (wide : WidePass) : Type 0 where
  pub header : List ℕ × List ℕ × List ℕ
  pub signature : List ℕ
  pub at_header : header_at bytes ≡ Some header
  pub at_footer : footer_at (caveats_at caveat_at (length header.2) header.2).1 ≡ Some signature
  pub whole : made header (caveats_at caveat_at (length header.2) header.2).0 signature ≡ wide

pub whole_parts : (header_at : List ℕ → Option (List ℕ × List ℕ × List ℕ)) (caveat_at : Reader) (footer_at : List ℕ → Option (List ℕ)) (bytes : List ℕ)
    (wide : WidePass) → whole_at header_at caveat_at footer_at bytes ≡ Some wide → Parts header_at caveat_at footer_at bytes wide
unfolding whole_at
whole_parts header_at caveat_at footer_at bytes wide e = grind arith

pub whole_again : (header_at : List ℕ → Option (List ℕ × List ℕ × List ℕ)) (caveat_at : Reader) (footer_at : List ℕ → Option (List ℕ)) (bytes : List ℕ)
    (header : List ℕ × List ℕ × List ℕ) (caveats : List WideCaveat) (rest signature : List ℕ) → header_at bytes ≡ Some header →
    caveats_at caveat_at (length header.2) header.2 ≡ (caveats, rest) → footer_at rest ≡ Some signature →
    whole_at header_at caveat_at footer_at bytes ≡ Some (made header caveats signature)
unfolding whole_at
whole_again header_at caveat_at footer_at bytes header caveats rest signature h c s = grind arith

pub last_takes : (found : Option (List ℕ × List ℕ)) (signature : List ℕ) → (found >>= last_signature) ≡ Some signature →
    (found ≡ Some (signature, [])) × (length signature ≡ 32)
last_takes found signature e = grind (arith, common_steps, nat_tests)

abbrev TextReader : Type 0
TextReader = Form → List ℕ → Option WidePass

abbrev Spells : TextReader → Form → List ℕ → WidePass → Type 0
Spells wide_at form bytes wide = wide_at form bytes ≡ Some wide

module _ (wide_at : TextReader) (text : List ℕ) where
  abbrev SpellsIn : Form → WidePass → Type 0
  SpellsIn form wide = SpellsText (Spells wide_at) text form wide

  abbrev SpellsAny : WidePass → Type 0
  SpellsAny wide = (form : Form) × SpellsText (Spells wide_at) text form wide

  same_bytes : (form other : Form) (bytes : List ℕ) (wide : WidePass) → Wraps text form bytes → SpellsIn other wide →
      (other ≡ form) × (wide_at form bytes ≡ Some wide)
  same_bytes form other bytes wide wraps h = grind (arith, wraps_one text other form h.0 bytes h.1 wraps)

  computes_in : (form : Form) (bytes : List ℕ) → Wraps text form bytes → Computes (SpellsIn form) (wide_at form bytes)
  computes_in form bytes wraps wide = (λ h. (same_bytes form form bytes wide wraps h).1, λ e. (bytes, wraps, e))

  computes_any : (form : Form) (bytes : List ℕ) → Wraps text form bytes → Computes SpellsAny (wide_at form bytes)
  computes_any form bytes wraps wide = (λ h. (same_bytes form h.0 bytes wide wraps h.1).1, λ e. (form, (bytes, wraps, e)))

  in_form_is : (form : Form) (answer : Result Plain FormFault) → IsReadAs (length text) (SpellsIn form) answer → IsReadAs (length text) SpellsAny answer →
      IsTextReading (Spells wide_at) text (in_form form answer)
  in_form_is form answer here any = grind arith

  reading_in_is : (wrapped : Result (Form × List ℕ) FormFault) → IsUnwrapped text wrapped → IsTextReading (Spells wide_at) text (reading_in wide_at wrapped)
  reading_in_is (Ok (form, bytes)) h = in_form_is form (checked_if_any (wide_at form bytes))
      (checked_if_any_is (length text) (SpellsIn form) (wide_at form bytes) (computes_in form bytes h.1) h.0)
      (checked_if_any_is (length text) SpellsAny (wide_at form bytes) (computes_any form bytes h.1) h.0)
  reading_in_is (Err TooLong) h = h
  reading_in_is (Err Malformed) h = (h.0, λ wide spelling. h.1 spelling.0 spelling.1.0 spelling.1.1)
  reading_in_is wrapped h = absurd h

  wrapped_determined : (form : Form) (bytes : List ℕ) (answer : Result (Form × Plain) FormFault) → length text ≤ max_text_len → Wraps text form bytes →
      IsTextReading (Spells wide_at) text answer → in_form form (checked_if_any (wide_at form bytes)) ≡ answer
  wrapped_determined form bytes (Ok (other, pass)) within wraps h =
      let same = same_bytes form other bytes (as_wide_pass pass) wraps h.1 in
      ap (in_form form) (checked_determined (length text) (SpellsIn form) (wide_at form bytes) (Ok pass) (computes_in form bytes wraps) within
      (h.0, (bytes, wraps, same.1), h.2)) ∙ ap (λ (f : Form). Ok (f, pass)) (sym same.0)
  wrapped_determined form bytes (Err fault) within wraps h =
      ap (in_form form) (checked_determined (length text) SpellsAny (wide_at form bytes) (Err fault) (computes_any form bytes wraps) within h)

  reading_in_determined : (wrapped : Result (Form × List ℕ) FormFault) (answer : Result (Form × Plain) FormFault) → IsUnwrapped text wrapped →
      IsTextReading (Spells wide_at) text answer → reading_in wide_at wrapped ≡ answer
  reading_in_determined (Ok (form, bytes)) answer h content = wrapped_determined form bytes answer h.0 h.1 content
  reading_in_determined (Err TooLong) (Err TooLong) h content = refl
  reading_in_determined (Err Malformed) (Err Malformed) h content = refl
  reading_in_determined (Err Malformed) (Ok (form, pass)) h content = absurd (h.1 form content.1.0 content.1.1)
  reading_in_determined (Err Malformed) (Err ThirdParty) h content = absurd (h.1 content.2.0 content.2.1.0 content.2.1.1)
  reading_in_determined (Err Malformed) (Err TooMany) h content = absurd (h.1 content.2.0 content.2.1.0 content.2.1.1)
  reading_in_determined wrapped answer h content = first_of (search rules, omega arith)

  pub text_reading_exact : (answer : Result (Form × Plain) FormFault) → IsTextReading (Spells wide_at) text answer ↔ (text_reading wide_at text ≡ answer)
  unfolding text_reading
  text_reading_exact answer =
      let unwraps = unwrapped_answers text in (
        reading_in_determined (unwrapping text) answer unwraps,
        λ e. subst (IsTextReading (Spells wide_at) text) e (reading_in_is (unwrapping text) unwraps),
      )

-- Returns true if the fields begin with caveats and a valid signature. A valid signature equals the
-- signature of the chain after these caveats are added.
abbrev pub signed_in : List ℕ → List PassField → Bool
signed_in chain [] = false
signed_in chain (location_field bytes ∷ fields) = false
signed_in chain (identifier_field bytes ∷ fields) = false
signed_in chain (caveat_field bytes ∷ fields) = signed_in (hmac chain bytes) fields
signed_in chain (signature_field bytes ∷ fields) = bytes_eq chain bytes

pub signed_behind : (signature chain : List ℕ) (caveats : List (List ℕ))
    → signed_in chain (map caveat_field caveats ++ signature_field signature ∷ []) ≡ bytes_eq (fold hmac chain caveats) signature
signed_behind signature chain [] = refl
signed_behind signature chain (caveat ∷ caveats) = signed_behind signature (hmac chain caveat) caveats

place_of : (fields : List PassField) (chain : List ℕ) → IsTrue (signed_in chain fields) → AreSignedBy chain fields
place_of [] chain signed = grind arith
place_of (location_field bytes ∷ fields) chain signed = grind arith
place_of (identifier_field bytes ∷ fields) chain signed = grind arith
place_of (caveat_field bytes ∷ fields) chain signed =
    let later = place_of fields (hmac chain bytes) signed in
    record { caveats = bytes ∷ later.caveats; rest = later.rest; place = ap (λ those. caveat_field bytes ∷ those) later.place }
place_of (signature_field bytes ∷ fields) chain signed =
    record { caveats = []; rest = fields; place = ap (λ found. signature_field found ∷ fields) (sym (grind (arith, bytes_eq-Decides))) }

signed_at : (caveats : List (List ℕ)) (chain : List ℕ) (rest : List PassField)
    → IsTrue (signed_in chain (map caveat_field caveats ++ signature_field (fold hmac chain caveats) ∷ rest))
signed_at [] chain rest = grind (arith, bytes_eq-Decides)
signed_at (caveat ∷ caveats) chain rest = signed_at caveats (hmac chain caveat) rest

pub signed_if : (signed : Bool) (chain : List ℕ) (fields : List PassField) → signed ≡ signed_in chain fields → IsTrue signed ↔ AreSignedBy chain fields
signed_if signed chain fields same = rw same (grind (arith, place_of, signed_at))
