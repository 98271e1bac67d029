use Rattle.pass_json.proofs.any.unwrapping.Goals as goal
use Rattle.std.proofs.{Common.{◌≡◌, rules, ◌≤◌, length, Ok, Err, ap}, lemmas.Result.err_from_is_err_and}
use Rattle.pass_forms.specs.{Envelope.IsUnwrapped, Reading.max_text_len, declared.fault.FormFault.{FormFault, TheVariants.Memory}}
use Rattle.pass_json.{proofs.ExactLemmas.{unless_memory, may_run_out}, specs.AnyForm.{IsAnyReading, IsReadingInForm}}

pub returns-in_err-pass-clause-spelling : goal.returns-in_err-pass-clause-spelling
returns-in_err-pass-clause-spelling c =
    let text = c.args.text.now in
    let form = c.in_ok-unwrapping.unwrapping.form in
    let bytes = c.bytes.result.now in
    let content : IsUnwrapped text (Ok (form, bytes)) = rw c.bytes.ensures c.in_ok-unwrapping.ensures.reading in
    let short : length bytes ≤ max_text_len = rw c.bytes.ensures c.in_ok-unwrapping.ensures.short in
    let h = unless_memory (IsReadingInForm form bytes) (IsAnyReading text) (Err c.in_err-pass.field-0.0)
    (λ answer read. (c.reads_what_is_wrapped.ensures text bytes form answer content short).1 read) c.in_err-pass.ensures.spelling in
    search rules

pub returns-in_err-pass-clause-memory : goal.returns-in_err-pass-clause-memory
returns-in_err-pass-clause-memory c =
    let content : IsUnwrapped c.args.text.now (Ok (c.in_ok-unwrapping.unwrapping.form, c.bytes.result.now)) =
    rw c.bytes.ensures c.in_ok-unwrapping.ensures.reading in
    let p = err_from_is_err_and c.from_residual-in_err-pass.result c.from_residual-in_err-pass.ensures.1 in
    λ e.
    let fault : c.in_err-pass.field-0.0 ≡ Memory = cc (p.1, p.2) in
    may_run_out c.args.text.now c.in_ok-unwrapping.unwrapping.form c.bytes.result.now content
    (c.in_err-pass.ensures.memory (ap (λ (f : FormFault). Err f) fault))
