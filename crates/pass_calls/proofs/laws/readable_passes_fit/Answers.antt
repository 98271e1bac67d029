use Rattle.pass_calls.proofs.laws.readable_passes_fit.Goals as goal
use Rattle.std.proofs.Common.{ℕ, ◌≤◌, List, length, arith}
use Rattle.pass_calls.{proofs.FormBytes.{base64_fits, json_fits, v1_fits, v2_fits}, specs.Object.fields_len}
use Rattle.pass_forms.specs.{Envelope.Wraps, Pass.{Plain, as_wide_pass}, declared.form.Form.Form}
use Rattle.pass_json.specs.AnyForm.{SpellsForm}

wrapped_fits : (text : List ℕ) (form : Form) (bytes : List ℕ) → Wraps text form bytes → length bytes ≤ length text
wrapped_fits text form bytes h = grind (arith, base64_fits)

spelled_fits : (form : Form) (bytes : List ℕ) (pass : Plain) → SpellsForm form bytes (as_wide_pass pass) → fields_len pass ≤ length bytes
spelled_fits form bytes pass is = grind (arith, v1_fits, v2_fits, json_fits)

pub returns : goal.returns
returns c text form pass read =
    let spelled = read.1 in
    omega (arith, read.0, wrapped_fits text form spelled.0 spelled.1, spelled_fits form spelled.0 pass spelled.2)
