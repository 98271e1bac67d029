-- Defines the envelope of a pass text, and the results of reading the text. A pass text is plain
-- JSON or base64. This project chose the envelope, the way to determine the form, and the order of
-- the faults. In the results of reading, the parameter `Spells` defines the encoding of each form.
use Rattle.std.specs.{List.starts_with, Option.option_and_then, Prelude.{◌≡◌, ◌==◌, ◌≤◌, ◌<◌, ◌&&◌, ◌||◌, ◌⊎◌, ℕ, Bool, List, length, take, slice_get, nat_eq}}
use Rattle.std.specs.Prelude.{nat_le, IsTrue, codes, if◌then◌else◌, Option, None, Some, Result, Ok, Err}
use Rattle.base64.specs.{Engines.{url_safe_no_pad, url_safe, standard_no_pad, standard}, GeneralPurpose.{IsBytes, encode_of}}
use Rattle.pass_forms.specs.{Pass.{Plain, WidePass}, Reading.{max_text_len, IsReadAs}, declared.{envelope.Unwrapped.Unwrapped, fault.FormFault.FormFault}}
use Rattle.pass_forms.specs.declared.{fault.FormFault.TheVariants.{TooLong, Malformed}, form.Form.{Form, TheVariants.{V1, V2, Json}}}

-- `IsBase64 text bytes` means that `text` is a base64 encoding of `bytes`. The alphabet is URL-safe
-- (RFC 4648, section 5) or standard (section 4). The padding is complete or absent (section 3.2).
-- Unused bits are zero (section 3.5). This project chose to accept both alphabets and to accept
-- missing padding.
pub record IsBase64 (text bytes : List ℕ) : Type 0 where
  pub are_bytes : IsBytes bytes
  pub spelling : (text ≡ encode_of url_safe_no_pad bytes) ⊎ (text ≡ encode_of url_safe bytes)
      ⊎ (text ≡ encode_of standard_no_pad bytes) ⊎ (text ≡ encode_of standard bytes)

abbrev pub starts_with_brace : List ℕ → Bool
starts_with_brace bytes = starts_with nat_eq bytes (codes "{")

-- Returns true if the byte is one of the characters `0` to `9` or `a` to `f`.
abbrev pub is_lower_hex_digit : ℕ → Bool
is_lower_hex_digit byte = (nat_le 48 byte && nat_le byte 57) || (nat_le 97 byte && nat_le byte 102)

-- Returns the form of a pass whose first byte is `first`. A V2 pass begins with the byte 2. A JSON
-- pass begins with `{`, which is the byte 123. A V1 pass begins with a packet's length in
-- lower-case hexadecimal digits. V1 and V2 are formats of libmacaroons.
abbrev pub form_of_byte : ℕ → Option Form
form_of_byte first =
    if first == 2 then Some V2
    else if first == 123 then Some Json
    else if is_lower_hex_digit first then Some V1
    else None

-- Returns the form of a pass from its first byte.
abbrev pub form_of : List ℕ → Option Form
form_of bytes = option_and_then form_of_byte (slice_get bytes 0)

-- `Wraps text form bytes` means that the pass text `text` contains the bytes `bytes` of a pass in
-- the form `form`. If the text starts with `{`, the bytes are the text itself and the form is JSON.
-- Otherwise the text is base64 of the bytes, and the first decoded byte determines the form.
abbrev pub Wraps : List ℕ → Form → List ℕ → Type 0
Wraps text form bytes =
    (IsTrue (starts_with_brace text) × (form ≡ Json) × (bytes ≡ text))
    ⊎ (IsBase64 text bytes × (form_of bytes ≡ Some form))

-- The result of `unwrap_text` is `TooLong` if the text is longer than the limit. A text within the
-- limit gives `Malformed` if the text wraps no bytes in any form. For every other text, the result
-- is the form and the bytes. No other fault can occur.
abbrev pub IsUnwrapped : List ℕ → Result (Form × List ℕ) FormFault → Type 0
IsUnwrapped text (Ok content) = (length text ≤ max_text_len) × Wraps text content.0 content.1
IsUnwrapped text (Err TooLong) = max_text_len < length text
IsUnwrapped text (Err Malformed) =
    (length text ≤ max_text_len) × ((form : Form) (bytes : List ℕ) → ¬ Wraps text form bytes)
IsUnwrapped text (Err other) = ⊥

-- Returns the bytes of the pass. If `plain` is true, the bytes of the pass are the text itself.
-- Otherwise the bytes of the pass are the first `len` bytes of the buffer.
abbrev pub unwrapped_bytes : Unwrapped → List ℕ → List ℕ → List ℕ
unwrapped_bytes unwrapping text buffer = if unwrapping.plain then text else take unwrapping.len buffer

-- Converts a result of `unwrap_text` to the form and the bytes of the pass, or to the fault. The
-- argument `buffer` is the buffer that the call filled.
abbrev pub unwrapped_result : Result Unwrapped FormFault → List ℕ → List ℕ → Result (Form × List ℕ) FormFault
unwrapped_result (Ok unwrapping) text buffer = Ok (unwrapping.form, unwrapped_bytes unwrapping text buffer)
unwrapped_result (Err fault) text buffer = Err fault

-- The text wraps bytes in the given form, and these bytes encode the wide pass.
abbrev pub SpellsText : (Form → List ℕ → WidePass → Type 0) → List ℕ → Form → WidePass → Type 0
SpellsText Spells text form wide = (bytes : List ℕ) × Wraps text form bytes × Spells form bytes wide

-- The result of reading a text is the form and the pass, or the first fault that applies.
abbrev pub IsTextReading : (Form → List ℕ → WidePass → Type 0) → List ℕ → Result (Form × Plain) FormFault → Type 0
IsTextReading Spells text (Ok read) = IsReadAs (length text) (SpellsText Spells text read.0) (Ok read.1)
IsTextReading Spells text (Err fault) =
    IsReadAs (length text) (λ wide. (form : Form) × SpellsText Spells text form wide) (Err fault)
