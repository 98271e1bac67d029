use Rattle.pass_forms.proofs.write.write_in.Goals as goal
use Rattle.std.proofs.lemmas.List.{length-map}
use Rattle.pass_forms.proofs.{Common.arith, WrittenLemmas.{too_long, written}}

pub returns-in_err-put_pass-clause-written : goal.returns-in_err-put_pass-clause-written
returns-in_err-put_pass-clause-written g c = grind (arith, length-map, too_long)

pub returns-in_err-text_of-clause-written : goal.returns-in_err-text_of-clause-written
returns-in_err-text_of-clause-written g c = grind (arith, written, length-map)

pub returns-clause-written : goal.returns-clause-written
returns-clause-written g c = grind (arith, written, length-map)
