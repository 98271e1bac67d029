use Rattle.std.{proofs.Common.{refl, subst, Ok, Err, List, ℕ}, specs.String.string_bytes}
use Rattle.pass_calls.specs.Output.{IsCopied}
use Rattle.pass_c.proofs.exports.write_in.Goals as goal

pub returns-in-Ok : goal.returns-in-Ok
returns-in-Ok c = record {
  writing = Ok (string_bytes c.in-Ok.text);
  written = (c.in-Ok.ensures.ok, c.in-Ok.ensures.read_back);
  copied = subst (λ (text : List ℕ). IsCopied text c.args.out.now c.put.new.out c.put.new.len c.put.result) c.as_bytes.ensures.value c.put.ensures;
}

pub returns-in-Err : goal.returns-in-Err
returns-in-Err c = record {
  writing = Err c.in-Err.fault;
  written = c.in-Err.ensures.err;
  copied = record { unchanged = refl; no_len = refl; reason = c.fault_code.ensures };
}
