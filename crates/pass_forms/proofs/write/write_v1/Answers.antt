use Rattle.pass_forms.proofs.write.write_v1.Goals as goal
use Rattle.std.specs.String.{string_bytes}
use Rattle.pass_forms.{proofs.WrittenLemmas.{keeps_promises, v1_form}, specs.computed.Reading.writing_v1}

pub returns : goal.returns
unfolding writing_v1
returns c =
    let h = keeps_promises v1_form c.args.pass.now _ string_bytes c.write_in.result c.write_in.ensures.written c.write_in.ensures.real in
    record { ok = h.ok; err = h.err; read_back = h.read_back; computed = c.write_in.ensures.written }
