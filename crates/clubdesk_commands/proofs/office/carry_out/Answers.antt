use Rattle.std.{proofs.Common.rules, specs.String.string_bytes}
use Rattle.clubdesk_commands.specs.Does as spec
use Rattle.clubdesk_commands.proofs.office.carry_out.Goals as goal

pub returns-in-Ok-clause-does : goal.returns-in-Ok-clause-does
returns-in-Ok-clause-does g c = rw c.in-Give.is (spec.command_given (string_bytes c.in-Ok.line) c.in-Ok.ensures.ok c.give.ensures.given)

pub returns-in-Sheet-clause-does : goal.returns-in-Sheet-clause-does
returns-in-Sheet-clause-does g c = rw c.in-Sheet.is (search rules)

pub returns-in-Some-clause-does : goal.returns-in-Some-clause-does
returns-in-Some-clause-does g c =
    rw c.in-Key.is (spec.command_given (string_bytes c.in-Some.line) c.in-Some.ensures (rw c.key_command.ensures at c.give-in-Some.ensures.given))
