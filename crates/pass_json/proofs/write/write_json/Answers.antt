use Rattle.pass_json.proofs.write.write_json.Goals as goal
use Rattle.std.{proofs.{Common.arith, lemmas.{Bool.Decides.nat_tests, Result.IfOk-weaker}}, specs.String.string_bytes}
use Rattle.pass_json.{proofs.WrittenLemmas.written_if, specs.computed.AnyForm.writing_json}

pub returns-clause-ok : goal.returns-clause-ok
returns-clause-ok c =
    written_if c.writes_json_exactly.ensures c.args.pass.now string_bytes c.short_text.result c.short_text.ensures.bytes c.short_text.ensures.signature
    c.short_text.ensures.computed

pub returns-clause-err : goal.returns-clause-err
unfolding writing_json
returns-clause-err c = grind (arith, nat_tests)

pub returns-clause-read_back : goal.returns-clause-read_back
returns-clause-read_back c = IfOk-weaker c.short_text.result _ _ (λ text written. c.json_reads_back.ensures c.args.pass.now (string_bytes text) written)
    (written_if c.writes_json_exactly.ensures c.args.pass.now string_bytes c.short_text.result c.short_text.ensures.bytes c.short_text.ensures.signature
    c.short_text.ensures.computed)
