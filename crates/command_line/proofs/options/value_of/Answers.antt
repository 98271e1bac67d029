use Rattle.command_line.proofs.options.value_of.Goals as goal
use Rattle.std.{proofs.Common.{[], ap, arith, unwrap_or, ◌∙◌}, specs.Borrow.Bor}
use Rattle.clap.{proofs.WalkLemmas.first_value-rows, specs.Words.{Text, found_of}}

pub returns : goal.returns
returns c = ap (λ (s : Bor Text). s.now) c.unwrap_or.ensures ∙ (grind arith)
    ∙ ap (λ o. unwrap_or o []) (c.get_str.ensures ∙ first_value-rows (found_of c.args.options.now) c.args.id.now)
