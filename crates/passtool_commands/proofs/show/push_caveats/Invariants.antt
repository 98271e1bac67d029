-- The current text and the lines of the remaining caveats make up the whole text.
use Rattle.passtool_commands.proofs.show.push_caveats.Given as goal
use Rattle.std.{proofs.Common.{◌≡◌, ◌+◌, ◌++◌, drop}, specs.String.string_bytes}
use Rattle.passtool_commands.{proofs.CommandLemmas.items, specs.Answer.caveat_lines}

abbrev pub invariant-loop-index : goal.invariant-loop-index
invariant-loop-index l =
    string_bytes l.text ++ caveat_lines (l.index + 1) (items (drop l.index l.caveats)) ≡ string_bytes l.initial.text ++ caveat_lines 1 (items l.caveats)
