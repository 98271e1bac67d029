use Rattle.clubdesk_commands.proofs.handed_command.read_command.Goals as goal
use Rattle.std.proofs.Common.{arith, ◌≡◌, ◌∷◌, map, sym}
use Rattle.clubdesk_commands.{proofs.RunLemmas.same_items, specs.HandedCommand.command_data}
use Rattle.serde_json.specs.{Data.array, View.{items_of, view}}

pub returns-in_default-2 : goal.returns-in_default-2
returns-in_default-2 c root arguments command =
    let none = rw (c.in_default-2.is, c.deref.ensures.value) at c.in_ok-arguments.ensures in
    let values = map view c.in-Some.values.now.items in
    let is : view c.in-Ok.value ≡ array (items_of values) = grind (arith, sym c.in-Some.ensures) in
    let same : array (items_of values) ≡ command_data root arguments = grind (arith, command.spelled, c.in-Ok.ensures.ok, is) in
    none (root ∷ arguments) (same_items _ _ (cc))
