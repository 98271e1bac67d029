-- Defines the numbers of forms and faults in C, as in `include/clubpass.h`.
use Rattle.std.specs.Prelude.{ℕ, if◌then◌else◌, ◌==◌, Result, Ok, Err}
use Rattle.pass_forms.specs.declared.{fault.FormFault.{FormFault, TheVariants.{TooLong, Malformed, ThirdParty, TooMany, Memory}}, form.Form.Form}
use Rattle.pass_forms.specs.declared.form.Form.TheVariants.{V1, V2, Json}

-- The value of the field `form` in an empty object.
abbrev pub no_form_number : ℕ
no_form_number = 0

abbrev pub number_of_form : Form → ℕ
number_of_form V1 = 1
number_of_form V2 = 2
number_of_form Json = 3

-- The form with this number. For any unknown number, the form is V2.
abbrev pub form_with_number : ℕ → Form
form_with_number n = if n == 1 then V1 else if n == 3 then Json else V2

-- The call succeeded.
abbrev pub ok_code : ℕ
ok_code = 0

abbrev pub too_long_code : ℕ
too_long_code = 1

abbrev pub malformed_code : ℕ
malformed_code = 2

abbrev pub third_party_code : ℕ
third_party_code = 3

abbrev pub too_many_code : ℕ
too_many_code = 4

-- Memory ran out, or the object has no room for the pass.
abbrev pub memory_code : ℕ
memory_code = 5

-- The caller's buffer is too short for the output.
abbrev pub short_buffer_code : ℕ
short_buffer_code = 6

-- The pass has no caveat with this index.
abbrev pub no_caveat_code : ℕ
no_caveat_code = 7

-- No form has this number.
abbrev pub no_form_code : ℕ
no_form_code = 8

-- A value of the ask is outside its range.
abbrev pub bad_ask_code : ℕ
bad_ask_code = 9

abbrev pub not_understood_code : ℕ
not_understood_code = 10

abbrev pub denied_code : ℕ
denied_code = 11

abbrev pub fault_code : FormFault → ℕ
fault_code TooLong = too_long_code
fault_code Malformed = malformed_code
fault_code ThirdParty = third_party_code
fault_code TooMany = too_many_code
fault_code Memory = memory_code

-- The code for the result of a call: 0 for success, or the code of the fault.
abbrev pub code_of : {A : Type 0} → Result A FormFault → ℕ
code_of (Ok done) = ok_code
code_of (Err fault) = fault_code fault

-- The fault with this code. For any unknown code, the fault is `Memory`.
abbrev pub fault_with_code : ℕ → FormFault
fault_with_code n =
    if n == too_long_code then TooLong
    else if n == malformed_code then Malformed
    else if n == third_party_code then ThirdParty
    else if n == too_many_code then TooMany
    else Memory

abbrev pub result_of : ℕ → Result (Unit {0}) FormFault
result_of n = if n == ok_code then Ok tt else Err (fault_with_code n)
