use Rattle.std.{proofs.Common.{map, refl}, specs.String.string_bytes}
use Rattle.clubdesk_commands.specs.Run as spec
use Rattle.clubdesk_commands.proofs.process.run_process.Goals as goal

pub returns-in-Ok : goal.returns-in-Ok
returns-in-Ok g c =
    spec.process_ran (map string_bytes c.as_slice-arguments.result.now) c.run-ended.result (rw c.as_slice-arguments.ensures.value c.in-Ok.ensures.ok)
    c.run-ended.ensures (c.finish.ensures.status, c.finish.ensures.line)

pub returns-in-Err : goal.returns-in-Err
returns-in-Err g c =
    spec.arguments_refused c.in-Err.fault c.in-Err.ensures.unreadable c.in-Err.ensures.err refl refl refl refl
    (rw c.from.ensures at c.finish-in-Err.ensures.status, rw c.from.ensures at c.finish-in-Err.ensures.line)
