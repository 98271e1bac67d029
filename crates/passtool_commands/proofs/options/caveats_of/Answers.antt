use Rattle.passtool_commands.proofs.options.caveats_of.Goals as goal
use Rattle.std.proofs.{Common.{◌∙◌, Some, None, map, codes}, lemmas.Result.IfOk-weaker}
use Rattle.clap.specs.Words.{found_of}
use Rattle.passtool_commands.proofs.CommandLemmas.{raw_values_read as values_read}

pub returns-in-Some : goal.returns-in-Some
returns-in-Some c =
    IfOk-weaker c.new.result _ _ (λ caveats is. is ∙ values_read (found_of c.args.options.now) (codes "caveat") (Some (map (λ v. v.now) c.in-Some.texts.now))
    c.in-Some.ensures) c.new.ensures

pub returns-in-None : goal.returns-in-None
returns-in-None c =
    IfOk-weaker c.new-in-None.result _ _ (λ caveats is. is ∙ values_read (found_of c.args.options.now) (codes "caveat") None c.in-None.ensures)
    c.new-in-None.ensures
