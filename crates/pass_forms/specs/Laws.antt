-- Defines the laws of this crate. Each law relates definitions in `specs/` to each other.
use Rattle.std.specs.Prelude.{◌≡◌, ◌↔◌, ℕ, List, length, Option, Some, Result, true}
use Rattle.base64.specs.GeneralPurpose.{IsBytes}
use Rattle.pass_forms.specs.{Envelope.{IsBase64, Wraps, IsUnwrapped, IsTextReading}, Pass.{Plain, WidePass, IsSigned}, Reading.IsReadAs, V1.SpellsV1}
use Rattle.pass_forms.specs.{V2.SpellsV2, Writing.{v1_bytes, v2_bytes, IsV1Text, IsV2Text, IsWritableText, IsWriting, IsReadBack, HasBytes, with_caveat}}
use Rattle.pass_forms.specs.computed.Reading.{from_base64, unwrapping, is_signed, reading_of, text_reading, writing_v1, writing_v2}
use Rattle.pass_forms.specs.declared.{fault.FormFault.FormFault, form.Form.{Form, TheVariants.{V1, V2}}}

-- `reading_of` returns the only result that `IsReadAs` allows. `len` is the length of a text.
-- `computed` is the wide pass that the text encodes, or `None`.
abbrev pub AnswersExactly : Type 0
AnswersExactly = (len : ℕ) (computed : Option WidePass) (answer : Result Plain FormFault) →
    IsReadAs len (λ wide. computed ≡ Some wide) answer ↔ (reading_of len computed ≡ answer)

-- A list of bytes encodes at most one wide pass. The relation `Spells` defines the encoding.
abbrev pub OnePassEach : (List ℕ → WidePass → Type 0) → Type 0
OnePassEach Spells = (bytes : List ℕ) (one other : WidePass) → Spells bytes one → Spells bytes other → one ≡ other

-- `wide_at` returns a wide pass if and only if the bytes encode this wide pass.
abbrev pub ComputesSpelled : (List ℕ → WidePass → Type 0) → (List ℕ → Option WidePass) → Type 0
ComputesSpelled Spells wide_at = (bytes : List ℕ) (wide : WidePass) → Spells bytes wide ↔ (wide_at bytes ≡ Some wide)

-- For each list of bytes, `reading` returns the only result that `IsReadAs` allows.
abbrev pub ReadsExactly : (List ℕ → WidePass → Type 0) → (List ℕ → Result Plain FormFault) → Type 0
ReadsExactly Spells reading = (bytes : List ℕ) (answer : Result Plain FormFault) →
    IsReadAs (length bytes) (Spells bytes) answer ↔ (reading bytes ≡ answer)

-- A pass text has at most one form, and wraps at most one list of bytes.
abbrev pub WrapsOne : Type 0
WrapsOne = (text : List ℕ) (form other_form : Form) (bytes other_bytes : List ℕ)
    → Wraps text form bytes → Wraps text other_form other_bytes
    → (form ≡ other_form) × (bytes ≡ other_bytes)

-- If each element of a pass text is a byte, each element of the list that the text wraps is also a
-- byte.
abbrev pub WrapsBytes : Type 0
WrapsBytes = (text : List ℕ) (form : Form) (bytes : List ℕ)
    → IsBytes text → Wraps text form bytes → IsBytes bytes

-- `from_base64` returns a list of bytes if and only if the text is a base64 encoding of these
-- bytes.
abbrev pub FromBase64IsBase64 : Type 0
FromBase64IsBase64 = (text bytes : List ℕ) → (from_base64 text ≡ Some bytes) ↔ IsBase64 text bytes

-- For each text, `unwrapping` returns the only result that `IsUnwrapped` allows.
abbrev pub UnwrappedIsTheAnswer : Type 0
UnwrappedIsTheAnswer = (text : List ℕ) (answer : Result (Form × List ℕ) FormFault) → (unwrapping text ≡ answer) ↔ IsUnwrapped text answer

-- For each text, `text_reading` returns the only result that `IsTextReading` allows. The parameter
-- `wide_at` decodes the bytes of each form.
abbrev pub ReadsTextsExactly : Type 0
ReadsTextsExactly = (wide_at : Form → List ℕ → Option WidePass) (text : List ℕ) (answer : Result (Form × Plain) FormFault) →
    IsTextReading (λ form bytes wide. wide_at form bytes ≡ Some wide) text answer ↔ (text_reading wide_at text ≡ answer)

-- Reading a text that `write_v1` or `write_v2` wrote gives the same pass again.
abbrev pub TextsReadBack : Type 0
TextsReadBack = (pass : Plain) (text : List ℕ) → HasBytes pass →
    (IsWritableText IsV1Text pass text → IsReadBack SpellsV1 V1 (v1_bytes pass) pass text)
    × (IsWritableText IsV2Text pass text → IsReadBack SpellsV2 V2 (v2_bytes pass) pass text)

-- For a pass with a signature of 32 bytes, `writing_v1` and `writing_v2` return the only results
-- that `IsWriting` allows.
abbrev pub WritesExactly : Type 0
WritesExactly = (pass : Plain) (answer : Result (List ℕ) FormFault) → length pass.signature ≡ 32 →
    ((writing_v1 pass ≡ answer) ↔ IsWriting IsV1Text pass answer) × ((writing_v2 pass ≡ answer) ↔ IsWriting IsV2Text pass answer)

-- A pass that is signed under a root stays signed under this root when a caveat is added.
abbrev pub NarrowedStaysSigned : Type 0
NarrowedStaysSigned = (root caveat : List ℕ) (pass : Plain) → IsSigned root pass → IsSigned root (with_caveat caveat pass)

-- `is_signed` returns true if and only if the pass is signed under the root.
abbrev pub DecidesSigned : Type 0
DecidesSigned = (root : List ℕ) (pass : Plain) → IsSigned root pass ↔ (is_signed root pass ≡ true)
