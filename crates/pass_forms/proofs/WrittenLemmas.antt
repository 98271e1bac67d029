-- Lemmas about writing the bytes and the text of a pass, in V1 or V2, and about reading the text
-- back.
use Rattle.std.{proofs.Common.{IfErr, IfOk, true, IsOk, MatchResult}, specs.List.list_all}
use Rattle.base64.{proofs.RoundTrip.length-encode_symbols, specs.{Engines.url_safe_no_pad, GeneralPurpose.{IsBytes, engine_symbols}, Rfc4648.unpadded_len}}
use Rattle.pass_forms.proofs.{Base64Lemmas.{append_is_bytes, bytes_from_passes, nil_is_bytes, one_more}, Common.{suc, zero, ℕ, ◌/◌, ◌<◌, ◌≡◌, AllByRecursion}}
use Rattle.pass_forms.proofs.Common.{List, [], arith, flat_map, ltb, map, refl, ◌++◌, ◌∷◌, ◌≤◌, FitsPacket, Plain, caveat_packets, caveat_section, field}
use Rattle.pass_forms.proofs.Common.{optional_field, packet, rules, Err, Ok, Some, append-nil, length, Form, IsUnwrapped, TooLong, max_text_len, nat_tests, ◌↔◌}
use Rattle.pass_forms.proofs.{Common.{FormFault, Result, WidePass, SpellsV1, common_steps, SpellsV2}, FieldLemmas.{identifier_key, location_key, signature_key}}
use Rattle.pass_forms.specs.{Envelope.{form_of, form_of_byte}, Pass.{as_wide_pass, widened_caveat}, Reading.max_caveats, V1.{FitsCaveat, FitsPackets}}
use Rattle.pass_forms.specs.{V1.{hex_digit, packet_len}, V2.{end_of_section, groups, types, varint}, Writing.{HasBytes, nonempty_location, v1_bytes, v2_bytes}}
use Rattle.pass_forms.specs.Writing.{buffer_len, in_base64, FailsAs, IsReadBack, IsTextBy, IsWritableText, IsWriteFault, IsWriting, IsV1Text, IsV2Text}
use Rattle.pass_forms.specs.{computed.Reading.{writing_of, writing_v1, writing_v2}, declared.fault.FormFault.TheVariants.{Memory, TooMany}}
use Rattle.pass_forms.specs.declared.form.Form.TheVariants.{V1, V2}

packet_is_bytes : (key bytes : List ℕ) → list_all (λ byte. ltb byte 256) key ≡ true → FitsPacket key bytes → IsBytes bytes → IsBytes (packet key bytes)
packet_is_bytes key bytes passes fits are = search (rules, append_is_bytes, one_more, nil_is_bytes, arith, bytes_from_passes)

packets_are_bytes : (caveats : List (List ℕ)) → AllByRecursion FitsCaveat (map widened_caveat caveats) → AllByRecursion IsBytes caveats →
    IsBytes (flat_map caveat_packets (map widened_caveat caveats))
packets_are_bytes [] fit are = nil_is_bytes
packets_are_bytes (caveat ∷ caveats) fit are = search (rules, nil_is_bytes, append_is_bytes, packet_is_bytes, packets_are_bytes caveats fit.1 are.1)

pub v1_is_bytes : (pass : Plain) → FitsPackets (as_wide_pass pass) → HasBytes pass → IsBytes (v1_bytes pass)
unfolding v1_bytes
v1_is_bytes pass fits are =
    let location : List ℕ = packet location_key pass.location in
    let identifier : List ℕ = packet identifier_key pass.identifier in
    let caveats : List ℕ = flat_map caveat_packets (map widened_caveat pass.caveats) in
    let signature : List ℕ = packet signature_key pass.signature in
    let fits_signature : FitsPacket signature_key pass.signature = omega (arith, fits.signature) in
    append_is_bytes location (identifier ++ (caveats ++ signature)) (packet_is_bytes location_key pass.location refl fits.location are.location)
    (append_is_bytes identifier (caveats ++ signature) (packet_is_bytes identifier_key pass.identifier refl fits.identifier are.identifier)
    (append_is_bytes caveats signature (packets_are_bytes pass.caveats fits.caveats are.caveats)
    (packet_is_bytes signature_key pass.signature refl fits_signature are.signature)))

groups_are_bytes : (more n : ℕ) → n ≤ more → IsBytes (groups more n)
unfolding groups
groups_are_bytes zero n h = one_more n [] (omega arith) nil_is_bytes
groups_are_bytes (suc more) n h = grind (arith, one_more, nil_is_bytes, groups_are_bytes more (n / 128) (omega arith))

field_is_bytes : (type : ℕ) (bytes : List ℕ) → type < 256 → IsBytes bytes → IsBytes (field type bytes)
unfolding varint
field_is_bytes type bytes small are = search (rules, append_is_bytes, one_more, groups_are_bytes)

location_is_bytes : (location : List ℕ) → IsBytes location → IsBytes (optional_field types.location (nonempty_location location))
location_is_bytes [] are = nil_is_bytes
location_is_bytes (byte ∷ bytes) are = field_is_bytes types.location (byte ∷ bytes) (omega arith) are

section_is_bytes : (type : ℕ) (bytes rest : List ℕ) → type < 256 → IsBytes bytes → IsBytes rest → IsBytes (field type bytes ++ (end_of_section ++ rest))
section_is_bytes type bytes rest small are others = search (rules, append_is_bytes, field_is_bytes, one_more)

sections_are_bytes : (caveats : List (List ℕ)) → AllByRecursion IsBytes caveats → IsBytes (flat_map caveat_section (map widened_caveat caveats))
sections_are_bytes [] are = nil_is_bytes
sections_are_bytes (caveat ∷ caveats) are = search (rules, nil_is_bytes, append_is_bytes, section_is_bytes, sections_are_bytes caveats are.1)

pub v2_is_bytes : (pass : Plain) → HasBytes pass → IsBytes (v2_bytes pass)
unfolding v2_bytes
v2_is_bytes pass are =
    let location : List ℕ = optional_field types.location (nonempty_location pass.location) in
    let caveats : List ℕ = flat_map caveat_section (map widened_caveat pass.caveats) in
    let last : List ℕ = end_of_section ++ field types.signature pass.signature in
    let others : List ℕ = field types.identifier pass.identifier ++ (end_of_section ++ (caveats ++ last)) in
    one_more 2 (location ++ others) (omega arith) (append_is_bytes location others (location_is_bytes pass.location are.location)
    (section_is_bytes types.identifier pass.identifier (caveats ++ last) (omega arith) are.identifier
    (append_is_bytes caveats last (sections_are_bytes pass.caveats are.caveats)
    (one_more 0 (field types.signature pass.signature) (omega arith) (field_is_bytes types.signature pass.signature (omega arith) are.signature)))))

length-in_base64 : (bytes : List ℕ) → length (in_base64 bytes) ≡ unpadded_len (length bytes)
length-in_base64 bytes = rw append-nil (length-encode_symbols (engine_symbols url_safe_no_pad) bytes)

text_fits : (bytes : List ℕ) → length bytes ≤ buffer_len → length (in_base64 bytes) ≤ max_text_len
text_fits bytes h = omega (arith, length-in_base64 bytes)

bytes_fit : (bytes : List ℕ) → length (in_base64 bytes) ≤ max_text_len → length bytes ≤ buffer_len
bytes_fit bytes h = omega (arith, length-in_base64 bytes)

module _ (bytes : List ℕ) (pass : Plain) where
  pub too_long : length pass.caveats ≤ max_caveats → buffer_len < length bytes → writing_of bytes pass ≡ Err TooLong
  too_long few long = grind (arith, nat_tests, length-in_base64 bytes)

  pub written : length pass.caveats ≤ max_caveats → length bytes ≤ buffer_len → writing_of bytes pass ≡ Ok (in_base64 bytes)
  written few fits = grind (arith, nat_tests, text_fits bytes)

pub unwraps : (form : Form) (bytes : List ℕ) → IsBytes bytes → length bytes ≤ buffer_len → form_of bytes ≡ Some form →
    IsUnwrapped (in_base64 bytes) (Ok (form, bytes))
unwraps form bytes are short content = grind (arith, text_fits)

-- A form of passes. `bytes_of` returns the bytes of a pass, and `Spells` relates bytes to the wide
-- pass that they encode.
pub record BytesForm : Type 1 where
  pub bytes_of : Plain → List ℕ
  pub Spells : List ℕ → WidePass → Type 0
  pub form : Form
  pub spells : (pass : Plain) → length (bytes_of pass) ≤ buffer_len → length pass.signature ≡ 32 → Spells (bytes_of pass) (as_wide_pass pass)
  pub has_form : (pass : Plain) → Spells (bytes_of pass) (as_wide_pass pass) → form_of (bytes_of pass) ≡ Some form

abbrev pub IsTextIn : BytesForm → Plain → List ℕ → Type 0
IsTextIn f pass text = IsTextBy f.bytes_of f.Spells pass text

module _ (f : BytesForm) (pass : Plain) where
  pub reads_back : (text : List ℕ) → IsBytes (f.bytes_of pass) → IsWritableText (IsTextIn f) pass text → IsReadBack f.Spells f.form (f.bytes_of pass) pass text
  reads_back text are written = grind (arith, bytes_fit, unwraps)

  pub exact : (answer : Result (List ℕ) FormFault) → (IsOk (writing_of (f.bytes_of pass) pass) → length pass.signature ≡ 32)
      → (writing_of (f.bytes_of pass) pass ≡ answer) ↔ IsWriting (IsTextIn f) pass answer
  exact answer len = grind (arith, bytes_fit)

  pub record Promises (A : Type 0) (bytes : A → List ℕ) (result : Result A FormFault) : Type 0 where
    pub ok : IfOk result (λ text. IsWritableText (IsTextIn f) pass (bytes text))
    pub err : IfErr result (IsWriteFault (IsTextIn f) pass)
    pub read_back : IfOk result (λ text. IsReadBack f.Spells f.form (f.bytes_of pass) pass (bytes text))

  is_refused : (fault : FormFault) → (IsOk (writing_of (f.bytes_of pass) pass) → length pass.signature ≡ 32)
      → FailsAs (writing_of (f.bytes_of pass) pass) fault → IsWriteFault (IsTextIn f) pass fault
  is_refused TooMany len e = (exact (Err TooMany) len).0 e
  is_refused TooLong len e = (exact (Err TooLong) len).0 e
  is_refused Memory len some = go (writing_of (f.bytes_of pass) pass) refl some
    where
      go : (result : Result (List ℕ) FormFault) → writing_of (f.bytes_of pass) pass ≡ result → IsOk result → IsWriteFault (IsTextIn f) pass Memory
      go (Ok text) e h = (text, (exact (Ok text) len).0 e)
      go (Err fault) e h = absurd (cc)
  is_refused fault len e = (exact (Err fault) len).0 e

  pub keeps_promises : (A : Type 0) (bytes : A → List ℕ) (result : Result A FormFault)
      → MatchResult result (λ text. writing_of (f.bytes_of pass) pass ≡ Ok (bytes text)) (FailsAs (writing_of (f.bytes_of pass) pass))
      → (IsOk (writing_of (f.bytes_of pass) pass) → IsBytes (f.bytes_of pass) × (length pass.signature ≡ 32)) → Promises A bytes result
  keeps_promises A bytes (Ok text) e real =
      let its = real (rw e refl) in
      let written = (exact (Ok (bytes text)) (λ _. its.1)).0 e in
      record { ok = written; err = tt; read_back = reads_back (bytes text) its.0 written }
  keeps_promises A bytes (Err fault) e real = record { ok = tt; err = is_refused fault (λ some. (real some).1) e; read_back = tt }

fit_caveats : (caveats : List (List ℕ)) → length (flat_map caveat_packets (map widened_caveat caveats)) ≤ buffer_len →
    AllByRecursion FitsCaveat (map widened_caveat caveats)
fit_caveats [] h = tt
fit_caveats (caveat ∷ caveats) h = grind (arith, common_steps, fit_caveats caveats)

pub spells_v1 : (pass : Plain) → length (v1_bytes pass) ≤ buffer_len → length pass.signature ≡ 32 → SpellsV1 (v1_bytes pass) (as_wide_pass pass)
unfolding v1_bytes
spells_v1 pass short len = record { packets = refl; fits = grind (arith, common_steps, fit_caveats pass.caveats) }

hex_first : (k : ℕ) → k < 16 → form_of_byte (hex_digit k) ≡ Some V1
hex_first k h = grind (arith, nat_tests)

pub form_v1 : (pass : Plain) → FitsPacket location_key pass.location → form_of (v1_bytes pass) ≡ Some V1
unfolding v1_bytes
form_v1 pass fits = hex_first (packet_len location_key pass.location / 4096) (omega arith)

abbrev pub v1_form : BytesForm
v1_form = record {
  bytes_of = v1_bytes;
  Spells = SpellsV1;
  form = V1;
  spells = spells_v1;
  has_form = λ pass spelling. form_v1 pass spelling.fits.location;
}

pub law_v1 : (pass : Plain) (text : List ℕ) → HasBytes pass → IsWritableText IsV1Text pass text → IsReadBack SpellsV1 V1 (v1_bytes pass) pass text
law_v1 pass text are written = reads_back v1_form pass text (v1_is_bytes pass written.is_text.spelling.fits are) written

pub exact_v1 : (pass : Plain) (answer : Result (List ℕ) FormFault) → length pass.signature ≡ 32 → (writing_v1 pass ≡ answer) ↔ IsWriting IsV1Text pass answer
unfolding writing_v1
exact_v1 pass answer len = exact v1_form pass answer (λ _. len)

pub spells_v2 : (pass : Plain) → length pass.signature ≡ 32 → SpellsV2 (v2_bytes pass) (as_wide_pass pass)
unfolding v2_bytes
spells_v2 pass len = record { location = nonempty_location pass.location; is_location = grind arith; sections = refl; signature = len }

pub form_v2 : (pass : Plain) → form_of (v2_bytes pass) ≡ Some V2
unfolding v2_bytes
form_v2 pass = refl

abbrev pub v2_form : BytesForm
v2_form = record {
  bytes_of = v2_bytes;
  Spells = SpellsV2;
  form = V2;
  spells = λ pass fits len. spells_v2 pass len;
  has_form = λ pass spelling. form_v2 pass;
}

pub law_v2 : (pass : Plain) (text : List ℕ) → HasBytes pass → IsWritableText IsV2Text pass text → IsReadBack SpellsV2 V2 (v2_bytes pass) pass text
law_v2 pass text are written = reads_back v2_form pass text (v2_is_bytes pass are) written

pub exact_v2 : (pass : Plain) (answer : Result (List ℕ) FormFault) → length pass.signature ≡ 32 → (writing_v2 pass ≡ answer) ↔ IsWriting IsV2Text pass answer
unfolding writing_v2
exact_v2 pass answer len = exact v2_form pass answer (λ _. len)
