-- Defines the pass that an object of plain data represents, and a law about it.
use Rattle.std.specs.{List.sum_by, Prelude.{◌≡◌, ℕ, ◌+◌, nat_le, if◌then◌else◌, List, [], ◌∷◌, ◌++◌, take, drop, sum, Result, Ok, Err, ◌≤◌, length}}
use Rattle.pass_calls.specs.{Code.{form_with_number, memory_code, no_form_number, ok_code}, declared.object.PassObject.PassObject}
use Rattle.pass_forms.specs.{FieldSource.no_fields, Pass.Plain, declared.{fault.FormFault.FormFault, form.Form.Form}}
use Rattle.pass_json.specs.AnyForm.{IsAnyReading}

-- Splits the bytes into pieces with these lengths, from left to right.
abbrev pub pieces_of : List ℕ → List ℕ → List (List ℕ)
pieces_of [] bytes = []
pieces_of (len ∷ lens) bytes = take len bytes ∷ pieces_of lens (drop len bytes)

-- The pass that an object represents. The object's bytes contain the location, the identifier and
-- the caveats in this order.
abbrev pub held : PassObject → Plain
held object = record {
  location = take object.location_len object.bytes;
  identifier = take object.identifier_len (drop object.location_len object.bytes);
  caveats = pieces_of (take object.caveat_count object.caveat_lens) (drop object.identifier_len (drop object.location_len object.bytes));
  signature = object.signature;
}

-- The form of the text from which the object was read, or V2 if the object has no form.
abbrev pub form_in : PassObject → Form
form_in object = form_with_number object.form

-- The result of a call that fills an object: the object's new form and pass, or the fault.
abbrev pub filled : Result (Unit {0}) FormFault → PassObject → Result (Form × Plain) FormFault
filled (Ok done) object = Ok (form_in object, held object)
filled (Err fault) object = Err fault

-- The maximum total length of an object's location, identifier and caveats, in bytes.
abbrev pub room : ℕ
room = 8192

-- The number of bytes in the location, the identifier and the caveats of an object.
abbrev pub taken : PassObject → ℕ
taken object = object.location_len + object.identifier_len + sum (take object.caveat_count object.caveat_lens)

-- The code that `clubpass_mint` returns for a location and an identifier of `len` bytes in total.
abbrev pub room_code : ℕ → ℕ
room_code len = if nat_le len room then ok_code else memory_code

-- The object has no form, no fields, and a signature of zeros.
pub record IsEmpty (object : PassObject) : Type 0 where
  pub form : object.form ≡ no_form_number
  pub fields : held object ≡ no_fields

-- The pass with one more caveat and with an unchanged signature.
abbrev pub with_one_more : List ℕ → Plain → Plain
with_one_more caveat pass = record pass { caveats = pass.caveats ++ caveat ∷ [] }

-- The number of bytes that the fields of a pass need in an object.
abbrev pub fields_len : Plain → ℕ
fields_len pass = length pass.location + length pass.identifier + sum_by length pass.caveats

-- An object has room for every pass that a text encodes in any form.
abbrev pub ReadablePassesFit : Type 0
ReadablePassesFit = (text : List ℕ) (form : Form) (pass : Plain) → IsAnyReading text (Ok (form, pass)) → fields_len pass ≤ room
