use Rattle.pass_json.proofs.read.value_of.Goals as goal
use Rattle.std.proofs.{Common.arith, lemmas.Str.{IsUtf8-from_is_utf8, is_utf8-from_IsUtf8}}
use Rattle.pass_json.specs.computed.JsonReading.{value_of}

pub returns-in-Ok-clause-ok : goal.returns-in-Ok-clause-ok
unfolding value_of
returns-in-Ok-clause-ok c = rw (is_utf8-from_IsUtf8 c.args.bytes.now c.in-Ok.ensures.ok.0) c.in-Ok.ensures.ok.1

pub returns-else-is_memory-clause-err : goal.returns-else-is_memory-clause-err
unfolding value_of
returns-else-is_memory-clause-err c = grind (arith, IsUtf8-from_is_utf8)
