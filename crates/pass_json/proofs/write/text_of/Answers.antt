use Rattle.pass_json.proofs.write.text_of.Goals as goal
use Rattle.std.proofs.Common.{arith}
use Rattle.pass_json.{proofs.ObjectLemmas.object_is_fine, specs.JsonWriting.json_text}

pub returns-clause-text : goal.returns-clause-text
unfolding json_text
returns-clause-text c = grind (arith, object_is_fine)
