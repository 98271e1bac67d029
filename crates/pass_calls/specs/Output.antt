-- Defines the caller's buffer after a call.
use Rattle.std.specs.Prelude.{◌≡◌, ◌≢◌, ℕ, ◌<◌, ◌≤◌, List, ◌++◌, length, drop, MatchResult, Result, Ok, Err}
use Rattle.pass_forms.specs.{Pass.Plain, Writing.IsWritableText, declared.{fault.FormFault.{FormFault, TheVariants.Memory}, form.Form.Form}}
use Rattle.pass_json.specs.AnyForm.{IsAnyReading, IsRefusedIn, IsTextIn}
use Rattle.pass_calls.specs.Code.{fault_code, no_form_code, number_of_form, ok_code, short_buffer_code}

-- A call copies `part` to the front of the buffer, if the buffer is long enough. The rest of the
-- buffer is unchanged. If the buffer is shorter than `part`, the whole buffer is unchanged. In both
-- cases, `len` is the length of `part`.
pub record IsCopied (part old new : List ℕ) (len code : ℕ) : Type 0 where
  pub fits : length part ≤ length old → (code ≡ ok_code) × (new ≡ part ++ drop (length part) old)
  pub too_short : length old < length part → (code ≡ short_buffer_code) × (new ≡ old)
  pub part_len : len ≡ length part

-- The buffer is unchanged, the length is 0, and the code is `why`.
pub record IsLeft (why : ℕ) (old new : List ℕ) (len code : ℕ) : Type 0 where
  pub unchanged : new ≡ old
  pub no_len : len ≡ 0
  pub reason : code ≡ why

-- The result of writing a pass in a form: a text, or a fault. The code copies a pass to the heap
-- before it writes the text. Memory can therefore run out for any pass, even for a pass that has no
-- text in this form.
abbrev pub IsWrittenAs : Form → Plain → Result (List ℕ) FormFault → Type 0
IsWrittenAs form pass (Ok text) =
    IsWritableText (IsTextIn form) pass text × IsAnyReading text (Ok (form, pass))
IsWrittenAs form pass (Err fault) = fault ≢ Memory → IsRefusedIn form pass fault

-- The call copied the pass's text in this form to the buffer, or returned the code of a fault. The
-- possible faults are a buffer that is too short and the faults of writing the pass.
pub record IsTextCopied (form : Form) (pass : Plain) (old new : List ℕ) (len code : ℕ) : Type 0 where
  pub writing : Result (List ℕ) FormFault
  pub written : IsWrittenAs form pass writing
  pub copied : MatchResult writing (λ text. IsCopied text old new len code) (λ fault. IsLeft (fault_code fault) old new len code)

-- The call copied the pass's text to the buffer, or returned the code of a fault. The text has the
-- form with this number. If no form has this number, the buffer is unchanged, the length is 0 and
-- the code is `no_form_code`.
pub record WritesForm (number : ℕ) (pass : Plain) (old new : List ℕ) (len code : ℕ) : Type 0 where
  pub known : (form : Form) → number ≡ number_of_form form → IsTextCopied form pass old new len code
  pub unknown : ((form : Form) → number ≢ number_of_form form) → IsLeft no_form_code old new len code
