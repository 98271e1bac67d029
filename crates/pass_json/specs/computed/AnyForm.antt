-- Computes the results of reading and writing a pass text in any form. The JSON writer returns the
-- text, or the first fault that applies.
use Rattle.pass_forms.specs.computed.V1Reading as v1
use Rattle.pass_forms.specs.computed.V2Reading as v2
use Rattle.std.specs.Prelude.{ℕ, nat_lt, if◌then◌else◌, List, length, Result, Ok, Err, Option}
use Rattle.pass_forms.specs.{Pass.{Plain, WidePass}, Reading.{max_caveats, max_text_len}, computed.Reading.{text_reading, writing_v1, writing_v2}}
use Rattle.pass_forms.specs.declared.{fault.FormFault.{FormFault, TheVariants.{TooLong, TooMany}}, form.Form.{Form, TheVariants.{V1, V2, Json}}}
use Rattle.pass_json.specs.{JsonWriting.json_text, computed.JsonReading.{reading_json, wide_json}}

unfoldable pub writing_json : Plain → Result (List ℕ) FormFault
writing_json pass =
    if nat_lt max_caveats (length pass.caveats) then Err TooMany
    else (if nat_lt max_text_len (length (json_text pass)) then Err TooLong else Ok (json_text pass))

-- Returns the wide pass that the bytes encode in the given form, or `None`.
unfoldable pub wide_in : Form → List ℕ → Option WidePass
wide_in V1 bytes = v1.wide_at bytes
wide_in V2 bytes = v2.wide_at bytes
wide_in Json bytes = wide_json bytes

-- Reads a text in any form. Returns the form and the pass, or the first fault that applies.
unfoldable pub reading : List ℕ → Result (Form × Plain) FormFault
reading text = text_reading wide_in text

-- Reads bytes in the given form. Returns the pass, or the first fault that applies.
abbrev pub reading_in_form : Form → List ℕ → Result Plain FormFault
reading_in_form V1 bytes = v1.reading_v1 bytes
reading_in_form V2 bytes = v2.reading_v2 bytes
reading_in_form Json bytes = reading_json bytes

-- Writes a pass in the given form. Returns the text, or the first fault that applies.
unfoldable pub writing : Form → Plain → Result (List ℕ) FormFault
writing V1 pass = writing_v1 pass
writing V2 pass = writing_v2 pass
writing Json pass = writing_json pass
