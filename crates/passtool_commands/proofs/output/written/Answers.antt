use Rattle.passtool_commands.proofs.output.written.Goals as goal
use Rattle.std.{proofs.{Common.{◌≡◌, arith}, lemmas.{Grind.common_steps, Result.err_from_is_err_and}}, specs.String.string_bytes}
use Rattle.passtool_commands.{proofs.CommandLemmas.{refused, written_text}, specs.{Answer.with_line_feed, declared.answer.Outcome.TheVariants.Done}}

pub returns-in_err-text : goal.returns-in_err-text
returns-in_err-text c =
    let p = err_from_is_err_and c.from_residual.result c.from_residual.ensures.1 in
    rw (p.1, p.2) (refused c.args.form c.args.pass.now _ c.in_err-text.ensures.err)

pub returns : goal.returns
returns c =
    let is : c.new.result ≡ (Done, with_line_feed (string_bytes c.in_ok-text.text)) = grind (arith, common_steps) in
    written_text c.args.form c.args.pass.now (string_bytes c.in_ok-text.text) c.new.result c.in_ok-text.ensures.ok c.in_ok-text.ensures.read_back is
