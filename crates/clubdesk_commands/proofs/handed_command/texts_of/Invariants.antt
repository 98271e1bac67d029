-- After each step, the loop has copied the texts before the current value.
use Rattle.std.{proofs.Common.{◌≡◌, map, take}, specs.String.string_bytes}
use Rattle.serde_json.specs.{Data.string, View.view}
use Rattle.clubdesk_commands.proofs.handed_command.texts_of.Given as goal

abbrev pub invariant-loop-value : goal.invariant-loop-value
invariant-loop-value l = map view (take l.value-index l.values) ≡ map string (map string_bytes l.texts.items)
