use Rattle.passtool_commands.proofs.command.Command.perform.Goals as goal
use Rattle.std.proofs.{Common.inr, lemmas.Result.err_from_is_err_and}
use Rattle.passtool_commands.proofs.CommandLemmas.{begun, failed, performed}

pub returns-in_err-answer-clause-answer : goal.returns-in_err-answer-clause-answer
returns-in_err-answer-clause-answer g c =
    let p = err_from_is_err_and c.from_residual-in_err-answer.result c.from_residual-in_err-answer.ensures.1 in
    let held = g.W.Write.contents c.args.writer.now in
    rw (p.1, p.2) (failed c.args.self.now _ _ held held _ c.in_ok-count.ensures.bytes.1 _ c.in_err-answer.ensures)

pub returns-in_err-write_text-clause-answer : goal.returns-in_err-write_text-clause-answer
returns-in_err-write_text-clause-answer g c =
    let p = err_from_is_err_and c.from_residual-in_err-write_text.result c.from_residual-in_err-write_text.ensures.1 in
    rw (p.1, p.2) (inr (begun c.args.self.now _ _ _ _ _ c.in_ok-count.ensures.bytes.1 c.in_ok-answer.answer c.in_ok-answer.ensures
    c.text.result.now c.text.ensures c.in_err-write_text.ensures.err))

pub returns-clause-answer : goal.returns-clause-answer
returns-clause-answer g c =
    performed c.args.self.now _ _ _ _ _ c.in_ok-count.ensures.bytes.1 c.in_ok-answer.answer c.in_ok-answer.ensures
    c.outcome.result c.text.result.now c.outcome.ensures c.text.ensures c.in_ok-write_text.ensures.ok
