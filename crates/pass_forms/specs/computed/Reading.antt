-- Computes the results of a reader and of a writer, the bytes and the form of a pass text, and
-- whether a pass is signed under a root. A reader's argument is the wide pass that a text encodes,
-- or `None`. The parameter `wide_at` decodes the bytes of each form.
use Rattle.std.specs.{List.list_all, Option.{option_and_then, option_map, option_or, ok_or}, Prelude.{ℕ, Bool, List, nat_lt, if◌then◌else◌, length, Option}}
use Rattle.std.specs.{Prelude.{Some, None, Result, Ok, Err}, Str.bytes_eq}
use Rattle.base64.specs.{Engines.{url_safe_no_pad, url_safe, standard_no_pad, standard}, GeneralPurpose.decoded_of}
use Rattle.pass_forms.specs.{Envelope.{starts_with_brace, form_of}, Pass.{Plain, WidePass, has_third_party, first_party}, Reading.{max_text_len, max_caveats}}
use Rattle.pass_forms.specs.{Writing.{in_base64, v1_bytes, v2_bytes}, declared.fault.FormFault.{FormFault, TheVariants.{TooLong, Malformed, ThirdParty}}}
use Rattle.pass_forms.specs.declared.{fault.FormFault.TheVariants.TooMany, form.Form.{Form, TheVariants.Json}}
use Rattle.pass_mac.specs.Chain.{chain, derived_key}

unfoldable pub is_signed : List ℕ → Plain → Bool
is_signed root pass = bytes_eq (chain (derived_key root) pass.identifier pass.caveats) pass.signature

-- Checks the caveats of a wide pass. Returns the pass, or the first fault that applies.
abbrev pub checked_pass : WidePass → Result Plain FormFault
checked_pass wide =
    if has_third_party wide then Err ThirdParty
    else (if nat_lt max_caveats (length wide.caveats) then Err TooMany else Ok (first_party wide))

abbrev pub checked_if_any : Option WidePass → Result Plain FormFault
checked_if_any None = Err Malformed
checked_if_any (Some wide) = checked_pass wide

-- Returns the result of reading a text of length `len`. `spelling` is the wide pass that the text
-- encodes, or `None`.
abbrev pub reading_of : ℕ → Option WidePass → Result Plain FormFault
reading_of len spelling = if nat_lt max_text_len len then Err TooLong else checked_if_any spelling

-- Returns the parts of a wide pass that a reader needs: the pass, the number of caveats, and
-- whether any caveat is a third-party caveat.
abbrev pub pass_summary : WidePass → Plain × ℕ × Bool
pass_summary wide = (first_party wide, length wide.caveats, has_third_party wide)

-- Tries four base64 decoders in order. Returns the bytes from the first decoder that accepts the
-- text.
unfoldable pub by_decoders : List ℕ → Option (List ℕ)
by_decoders text =
    option_or (option_or (decoded_of url_safe_no_pad text) (decoded_of url_safe text))
    (option_or (decoded_of standard_no_pad text) (decoded_of standard text))

-- Decodes a base64 text. Returns `None` if the text isn't base64 or an element of the text isn't a
-- byte.
unfoldable pub from_base64 : List ℕ → Option (List ℕ)
from_base64 text = if list_all (λ byte. nat_lt byte 256) text then by_decoders text else None

-- Returns the form and the bytes, or `None` if `form_of` finds no form.
abbrev pub with_its_form : List ℕ → Option (Form × List ℕ)
with_its_form bytes = option_map (λ form. (form, bytes)) (form_of bytes)

-- Returns the form and the bytes that a pass text wraps, or the fault.
unfoldable pub unwrapping : List ℕ → Result (Form × List ℕ) FormFault
unwrapping text =
    if nat_lt max_text_len (length text) then Err TooLong
    else if starts_with_brace text then Ok (Json, text)
    else ok_or (option_and_then with_its_form (from_base64 text)) Malformed

-- Adds the form to the result of a reader.
abbrev pub in_form : Form → Result Plain FormFault → Result (Form × Plain) FormFault
in_form form (Ok pass) = Ok (form, pass)
in_form form (Err fault) = Err fault

-- Reads the bytes that a text wraps. Returns the form and the pass, or the first fault that
-- applies.
abbrev pub reading_in : (Form → List ℕ → Option WidePass) → Result (Form × List ℕ) FormFault → Result (Form × Plain) FormFault
reading_in wide_at (Ok wrapped) = in_form wrapped.0 (checked_if_any (wide_at wrapped.0 wrapped.1))
reading_in wide_at (Err fault) = Err fault

-- Reads a text in any form. Returns the form and the pass, or the first fault that applies.
unfoldable pub text_reading : (Form → List ℕ → Option WidePass) → List ℕ → Result (Form × Plain) FormFault
text_reading wide_at text = reading_in wide_at (unwrapping text)

-- Returns the base64 text of the pass's bytes, or the first fault that applies.
abbrev pub writing_of : List ℕ → Plain → Result (List ℕ) FormFault
writing_of bytes pass =
    if nat_lt max_caveats (length pass.caveats) then Err TooMany
    else (if nat_lt max_text_len (length (in_base64 bytes)) then Err TooLong else Ok (in_base64 bytes))

unfoldable pub writing_v1 : Plain → Result (List ℕ) FormFault
writing_v1 pass = writing_of (v1_bytes pass) pass

unfoldable pub writing_v2 : Plain → Result (List ℕ) FormFault
writing_v2 pass = writing_of (v2_bytes pass) pass
