use Rattle.pass_forms.proofs.envelope.unwrap_text.Goals as goal
use Rattle.pass_forms.proofs.{Base64Lemmas.answers_as, Common.{Ok, Err, rules, take, Malformed, unwrapping}}

pub returns-in_default-clause-reading : goal.returns-in_default-clause-reading
unfolding unwrapping
returns-in_default-clause-reading c = answers_as c.args.text.now (Err Malformed) (search rules)

pub returns-in_default-form_of-clause-reading : goal.returns-in_default-form_of-clause-reading
unfolding unwrapping
returns-in_default-form_of-clause-reading c = answers_as c.args.text.now (Err Malformed) (search rules)

pub returns-clause-reading : goal.returns-clause-reading
unfolding unwrapping
returns-clause-reading c = answers_as c.args.text.now (Ok (c.in-Some-form_of.form, take c.in-Some.len c.decode.new.buffer)) (search rules)
