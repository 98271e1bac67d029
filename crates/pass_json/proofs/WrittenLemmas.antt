-- Lemmas for the proof that `write_json` writes JSON that encodes the pass.
use Rattle.std.proofs.Common.{◌≡◌, ℕ, Bool, true, false, List, [], ◌∷◌, length, map, Option, Some, None, refl, ap, ◌∙◌, arith, Err, Ok, Result, cond, ltb, ◌↔◌}
use Rattle.std.{proofs.lemmas.Bool.{eq-eqb, Decides.nat_tests}, specs.{List.AllByRecursion, Result.{IfOk, MatchResult, OnOk}, Str.{IsUtf8, is_utf8}}}
use Rattle.base64.specs.{Engines.url_safe_no_pad, GeneralPurpose.{IsBytes, encode_of}}
use Rattle.pass_forms.specs.{Envelope.starts_with_brace, Laws.FromBase64IsBase64, Pass.{Plain, as_wide_pass, widened_caveat}, Reading.max_caveats}
use Rattle.pass_forms.specs.{Reading.max_text_len, Writing.{HasBytes, IsReadBack, IsWritableText, IsWriting}, computed.Reading.from_base64}
use Rattle.pass_forms.specs.declared.{fault.FormFault.{FormFault, TheVariants.{TooLong, TooMany}}, form.Form.TheVariants.Json}
use Rattle.pass_json.proofs.ObjectLemmas.{FieldText, caveat_is, object_is, object_is_fine, field_text, text_by_test, location_text, reads_text, utf8_text}
use Rattle.pass_json.{proofs.ObjectLemmas.{two_is_two, caveats_read}, specs.JsonWriting.{caveat_object, caveat_objects, json_text, object_of, IsJsonText}}
use Rattle.pass_json.specs.{JsonWriting.MayFailAs, computed.JsonReading.{caveat_from, caveats_of, field_from, has_only_names, pass_from}, Laws.OneTextEachForm}
use Rattle.pass_json.{specs.{Laws.{OneWritingEachForm, WritesJsonExactly}, computed.AnyForm.writing_json, Json.SpellsJson}, proofs.ExactLemmas.pass_takes}
use Rattle.serde_json.specs.Read.{read}

-- The text of a field encodes the given bytes. Under the plain name, the text equals the bytes.
-- Under the base64 name, the text is base64 of the bytes.
abbrev YieldsBytes : FieldText → List ℕ → Type 0
YieldsBytes (true, text) bytes = text ≡ bytes
YieldsBytes (false, text) bytes = from_base64 text ≡ Some bytes

abbrev YieldsIfAny : Option FieldText → List ℕ → Type 0
YieldsIfAny None bytes = bytes ≡ []
YieldsIfAny (Some text) bytes = YieldsBytes text bytes

utf8_json : (pass : Plain) → IsUtf8 (json_text pass)
unfolding json_text
utf8_json pass = utf8_text (object_of pass) (object_is_fine pass).texts

read_json_text : (pass : Plain) → read (json_text pass) ≡ Some (object_of pass)
unfolding json_text
read_json_text pass = grind (arith, object_is_fine, reads_text, object_is, two_is_two, caveats_read)

pub starts_json : (pass : Plain) → starts_with_brace (json_text pass) ≡ true
unfolding json_text object_of
starts_json pass = refl

module _ (law : FromBase64IsBase64) where
  base64_yields : (bytes : List ℕ) → IsBytes bytes → from_base64 (encode_of url_safe_no_pad bytes) ≡ Some bytes
  base64_yields bytes are = grind (arith, law)

  text_by_test_yields : (test : Bool) (bytes : List ℕ) → IsBytes bytes → YieldsBytes (text_by_test test bytes) bytes
  text_by_test_yields test bytes are = grind (arith, base64_yields)

  field_text_yields : (bytes : List ℕ) → IsBytes bytes → YieldsBytes (field_text bytes) bytes
  field_text_yields bytes are = text_by_test_yields (is_utf8 bytes) bytes are

  location_yields : (bytes : List ℕ) → IsBytes bytes → YieldsIfAny (location_text bytes) bytes
  location_yields location are = grind (arith, field_text_yields)

  caveat_reads_back : (bytes : List ℕ) → IsBytes bytes → caveat_from (caveat_object bytes) ≡ Some (widened_caveat bytes)
  unfolding caveat_from field_from has_only_names
  caveat_reads_back bytes are = ap caveat_from (caveat_is bytes) ∙ (grind (arith, field_text bytes, field_text_yields bytes are))

  caveats_read_back : (caveats : List (List ℕ)) → AllByRecursion IsBytes caveats → caveats_of (caveat_objects caveats) ≡ Some (map widened_caveat caveats)
  unfolding caveats_of
  caveats_read_back [] are = refl
  caveats_read_back (caveat ∷ caveats) are = grind (arith, caveat_reads_back, caveats_read_back caveats)

  object_reads_back : (pass : Plain) → HasBytes pass → length pass.signature ≡ 32 → pass_from (object_of pass) ≡ Some (as_wide_pass pass)
  unfolding pass_from field_from has_only_names
  object_reads_back pass are len = ap pass_from (object_is pass)
      ∙ (grind (
        arith,
        caveat_objects pass.caveats,
        map widened_caveat pass.caveats,
        field_text pass.identifier,
        location_text pass.location,
        encode_of
            url_safe_no_pad pass.signature,
        caveats_read_back pass.caveats are.caveats,
        field_text_yields pass.identifier are.identifier,
        location_yields
            pass.location are.location,
        base64_yields pass.signature are.signature,
        eq-eqb _ 32 len,
      ))

  pub spells_json : (pass : Plain) → HasBytes pass → length pass.signature ≡ 32 → SpellsJson (json_text pass) (as_wide_pass pass)
  spells_json pass are len = record {
    value = object_of pass;
    utf8 = utf8_json pass;
    is_read = read_json_text pass;
    is_pass = pass_takes law (object_of pass) (as_wide_pass pass) (object_reads_back pass are len);
  }

one_writing_for_each_form : OneTextEachForm → OneWritingEachForm
one_writing_for_each_form unique form pass one other p q = grind (arith, unique)

abbrev answer_by : Bool → Bool → List ℕ → Result (List ℕ) FormFault
answer_by many long text = cond many (Err TooMany) (cond long (Err TooLong) (Ok text))

allowed_by : FromBase64IsBase64 → (pass : Plain) (many long : Bool) → HasBytes pass → length pass.signature ≡ 32 → ltb max_caveats (length pass.caveats) ≡ many
    → ltb max_text_len (length (json_text pass)) ≡ long → IsWriting IsJsonText pass (answer_by many long (json_text pass))
allowed_by law pass many long are len m l = grind (arith, nat_tests, spells_json law)

pub exact_json : FromBase64IsBase64 → (pass : Plain) (answer : Result (List ℕ) FormFault) → HasBytes pass → length pass.signature ≡ 32 →
    (writing_json pass ≡ answer) ↔ IsWriting IsJsonText pass answer
unfolding writing_json
exact_json law pass answer are len = grind (arith, allowed_by, one_writing_for_each_form)

pub reads_back_json : (pass : Plain) (text : List ℕ) → IsWritableText IsJsonText pass text → IsReadBack SpellsJson Json text pass text
reads_back_json pass text written = grind (arith, starts_json)

pub written_if : {T : Type 0} (law : WritesJsonExactly) (pass : Plain) (bytes_of : T → List ℕ) (result : Result T FormFault) → OnOk result (HasBytes pass)
    → OnOk result (length pass.signature ≡ 32) → MatchResult result (λ text. writing_json pass ≡ Ok (bytes_of text)) (MayFailAs (writing_json pass))
    → IfOk result (λ text. IsWritableText IsJsonText pass (bytes_of text))
written_if law pass bytes_of (Ok text) are len e = (law pass (Ok (bytes_of text)) are len).0 e
written_if law pass bytes_of (Err fault) are len e = tt
