use Rattle.clubdesk_commands.specs.Run as spec
use Rattle.clubdesk_commands.proofs.program.perform.Goals as goal
use Rattle.std.proofs.Common.{Err, ap, refl}
use Rattle.clubdesk_commands.proofs.RunLemmas.{not_opened}

pub returns-in-Ok-Opened-clause-performs : goal.returns-in-Ok-Opened-clause-performs
returns-in-Ok-Opened-clause-performs g c =
    spec.task_done _ c.in-Ok-Opened.store c.carry_out-answer.new.desk c.reach.new.self
    (rw c.in-Ok-Opened.field-0-is at c.in-Ok-Opened.ensures) (rw c.new-desk.ensures at c.carry_out-answer.ensures.does)
    (rw c.into_store.ensures at c.close.ensures) c.print.ensures.prints

pub returns-in-Ok-Served-clause-performs : goal.returns-in-Ok-Served-clause-performs
returns-in-Ok-Served-clause-performs g c =
    spec.handed_over _ c.in-Ok-Served.visit (rw c.in-Ok-Served.field-0-is at c.in-Ok-Served.ensures)
    c.hand_over.ensures.handed c.print-in-Ok-Served.ensures.prints

pub returns-in-Err-clause-performs : goal.returns-in-Err-clause-performs
returns-in-Err-clause-performs g c = spec.not_reached c.in-Err.fault c.in-Err.ensures (ap Err c.from.ensures) refl

pub returns-in-Err-clause-ends : goal.returns-in-Err-clause-ends
returns-in-Err-clause-ends g c = not_opened c.in-Err.fault (ap Err c.from.ensures) refl
