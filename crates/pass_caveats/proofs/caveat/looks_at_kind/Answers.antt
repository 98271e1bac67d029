use Rattle.pass_caveats.proofs.caveat.looks_at_kind.Goals as goal
use Rattle.std.proofs.Common.{◌∙◌, ap, refl}
use Rattle.pass_caveats.{proofs.CaveatLemmas.blind_of, specs.Fault.is_on_kind}

pub returns-in-Some-clause-off_kind : goal.returns-in-Some-clause-off_kind
returns-in-Some-clause-off_kind c = λ blind.
    c.is_on_kind.ensures ∙ ap is_on_kind c.in-Some.ensures.function ∙ (blind_of c.reads_what_is_understood.ensures c.args.text.now _ refl blind)
