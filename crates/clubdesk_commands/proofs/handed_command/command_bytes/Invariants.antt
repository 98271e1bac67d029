-- After each step, the values are the root and the arguments before the current argument.
use Rattle.std.proofs.Common.{◌≡◌, ◌∷◌, map, take}
use Rattle.serde_json.specs.{Data.string, View.view}
use Rattle.clubdesk_commands.proofs.handed_command.command_bytes.Given as goal

abbrev pub invariant-loop-argument : goal.invariant-loop-argument
invariant-loop-argument g l = map view l.texts.items ≡ map string (l.fn.root ∷ map g.S.AsStr.text (take l.argument-index l.arguments))
