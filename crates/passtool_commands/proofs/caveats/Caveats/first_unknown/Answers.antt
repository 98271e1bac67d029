use Rattle.passtool_commands.proofs.caveats.Caveats.first_unknown.Goals as goal
use Rattle.std.proofs.Common.{◌∙◌, ap, sym, not}
use Rattle.passtool_commands.{proofs.CommandLemmas.place_map, specs.{Arguments.first_unknown, computed.Arguments.is_understood}}

pub returns : goal.returns
returns c =
    c.place_of_unknown.ensures ∙ sym (place_map (λ text. not (is_understood text)) c.as_slice.result.now) ∙ ap (first_unknown is_understood) c.as_slice.ensures
