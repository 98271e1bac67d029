-- Defines reading and writing a pass text in any of the three forms.
use Rattle.std.specs.Prelude.{◌≡◌, ◌⊎◌, ℕ, List, length, Result, Ok, Err}
use Rattle.pass_forms.specs.{Envelope.{IsUnwrapped, IsTextReading}, Pass.{Plain, WidePass}, Reading.IsReadAs, V1.SpellsV1, V2.SpellsV2, Writing.IsWriteFault}
use Rattle.pass_forms.specs.{Writing.{IsV1Text, IsV2Text}, declared.{fault.FormFault.FormFault, form.Form.{Form, TheVariants.{V1, V2, Json}}}}
use Rattle.pass_json.specs.{Json.SpellsJson, JsonWriting.{IsJsonText, IsRefusedJson}}

-- The bytes encode the wide pass in the given form.
abbrev pub SpellsForm : Form → List ℕ → WidePass → Type 0
SpellsForm V1 bytes wide = SpellsV1 bytes wide
SpellsForm V2 bytes wide = SpellsV2 bytes wide
SpellsForm Json bytes wide = SpellsJson bytes wide

-- The result of reading a text is the form and the pass, or the first fault that applies.
abbrev pub IsAnyReading : List ℕ → Result (Form × Plain) FormFault → Type 0
IsAnyReading text answer = IsTextReading SpellsForm text answer

-- The result of reading bytes in the given form is this form and the pass, or the first fault that
-- applies.
abbrev pub IsReadingInForm : Form → List ℕ → Result (Form × Plain) FormFault → Type 0
IsReadingInForm form bytes (Ok read) = (read.0 ≡ form) × IsReadAs (length bytes) (SpellsForm form bytes) (Ok read.1)
IsReadingInForm form bytes (Err fault) = IsReadAs (length bytes) (SpellsForm form bytes) (Err fault)

-- Reading can run out of memory only for these texts: a text in the form JSON within the length
-- limit, and a V1 or V2 text that passes all checks.
abbrev pub MayRunOut : List ℕ → Type 0
MayRunOut text =
    ((read : Form × Plain) × IsAnyReading text (Ok read)) ⊎ ((bytes : List ℕ) × IsUnwrapped text (Ok (Json, bytes)))

-- `IsTextIn form pass text` means that `text` is the text of the pass in this form.
abbrev pub IsTextIn : Form → Plain → List ℕ → Type 0
IsTextIn V1 pass text = IsV1Text pass text
IsTextIn V2 pass text = IsV2Text pass text
IsTextIn Json pass text = IsJsonText pass text

-- The writer of the given form may return this fault for the pass.
abbrev pub IsRefusedIn : Form → Plain → FormFault → Type 0
IsRefusedIn V1 pass fault = IsWriteFault IsV1Text pass fault
IsRefusedIn V2 pass fault = IsWriteFault IsV2Text pass fault
IsRefusedIn Json pass fault = IsRefusedJson pass fault
