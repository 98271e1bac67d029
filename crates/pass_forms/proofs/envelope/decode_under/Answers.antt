use Rattle.pass_forms.proofs.envelope.decode_under.Goals as goal

pub returns-clause-len : goal.returns-clause-len
returns-clause-len c = rw (← c.decode_by.auto.buffer) c.decode_by-2.ensures.len
