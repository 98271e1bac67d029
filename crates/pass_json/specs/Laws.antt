-- Defines the laws of this crate. Each law relates definitions in `specs/` to each other.
use Rattle.std.specs.Prelude.{◌≡◌, ◌↔◌, ℕ, List, length, Ok, ◌≤◌, Result, Err}
use Rattle.base64.specs.GeneralPurpose.{IsBytes}
use Rattle.pass_forms.specs.{Envelope.IsUnwrapped, Pass.Plain, Reading.max_text_len, Writing.{HasBytes, IsReadBack, IsWritableText, IsWriting}}
use Rattle.pass_forms.specs.declared.{fault.FormFault.FormFault, form.Form.{Form, TheVariants.Json}}
use Rattle.pass_json.specs.{AnyForm.{IsAnyReading, IsReadingInForm, IsTextIn}, Json.SpellsJson, JsonWriting.IsJsonText, computed.AnyForm.{reading, writing}}
use Rattle.pass_json.specs.computed.AnyForm.{writing_json}

-- Reading a text that `write_json` wrote gives the same pass again.
abbrev pub JsonReadsBack : Type 0
JsonReadsBack = (pass : Plain) (text : List ℕ) → IsWritableText IsJsonText pass text → IsReadBack SpellsJson Json text pass text

-- Suppose that each part of a pass is a list of bytes, and the signature has 32 bytes. Then
-- `writing_json` returns the only result that `IsWriting` allows for the pass.
abbrev pub WritesJsonExactly : Type 0
WritesJsonExactly = (pass : Plain) (answer : Result (List ℕ) FormFault) → HasBytes pass → length pass.signature ≡ 32 →
    (writing_json pass ≡ answer) ↔ IsWriting IsJsonText pass answer

-- Suppose that unwrapping a text gives a form and bytes, and the number of bytes is within the
-- limit. Then reading the text gives the same result as reading the bytes in this form.
abbrev pub ReadsWhatIsWrapped : Type 0
ReadsWhatIsWrapped = (text bytes : List ℕ) (form : Form) (answer : Result (Form × Plain) FormFault)
    → IsUnwrapped text (Ok (form, bytes)) → length bytes ≤ max_text_len
    → IsAnyReading text answer ↔ IsReadingInForm form bytes answer

-- If unwrapping a text fails, reading the text fails with the same fault.
abbrev pub RefusesWhatWrapsNothing : Type 0
RefusesWhatWrapsNothing = (text : List ℕ) (fault : FormFault) → IsUnwrapped text (Err fault) → IsAnyReading text (Err fault)

-- If each element of a text is a byte, `reading` returns the only result that `IsAnyReading`
-- allows.
abbrev pub ReadsAnyFormExactly : Type 0
ReadsAnyFormExactly = (text : List ℕ) (answer : Result (Form × Plain) FormFault) →
    IsBytes text → IsAnyReading text answer ↔ (reading text ≡ answer)

-- A pass has at most one text in each form.
abbrev pub OneTextEachForm : Type 0
OneTextEachForm = (form : Form) (pass : Plain) (one other : List ℕ) → IsTextIn form pass one → IsTextIn form pass other → one ≡ other

-- Reading a written text gives the same form and the same pass again.
abbrev pub AnyFormReadsBack : Type 0
AnyFormReadsBack = (form : Form) (pass : Plain) (text : List ℕ) → HasBytes pass →
    IsWritableText (IsTextIn form) pass text → IsAnyReading text (Ok (form, pass))

-- Suppose that each part of a pass is a list of bytes, and the signature has 32 bytes. Then
-- `writing` returns the only result that `IsWriting` allows for the pass.
abbrev pub WritesAnyFormExactly : Type 0
WritesAnyFormExactly = (form : Form) (pass : Plain) (answer : Result (List ℕ) FormFault) → HasBytes pass → length pass.signature ≡ 32 →
    (writing form pass ≡ answer) ↔ IsWriting (IsTextIn form) pass answer

-- Reading a text has at most one result. The result is the form and the pass, or a fault.
abbrev pub OneReadingEachText : Type 0
OneReadingEachText = (text : List ℕ) (one other : Result (Form × Plain) FormFault) → IsAnyReading text one → IsAnyReading text other →
    one ≡ other

-- Writing a pass in a form has at most one result. The result is the text or a fault.
abbrev pub OneWritingEachForm : Type 0
OneWritingEachForm = (form : Form) (pass : Plain) (one other : Result (List ℕ) FormFault) →
    IsWriting (IsTextIn form) pass one → IsWriting (IsTextIn form) pass other → one ≡ other
