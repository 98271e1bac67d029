use Rattle.std.{proofs.Common.{map, refl}, specs.String.string_bytes}
use Rattle.passtool_commands.specs.Process as spec
use Rattle.passtool_commands.proofs.process.run_process.Goals as goal

pub returns-in-Ok : goal.returns-in-Ok
returns-in-Ok g c =
    spec.process_ran (map string_bytes c.as_slice.result.now) c.run.result (rw c.as_slice.ensures.value c.in-Ok.ensures.ok)
    (record { answers = c.run.ensures.arguments; performs = c.run.ensures.command; unread = c.run.ensures.unread; silent = c.run.ensures.silent })
    (c.finish.ensures.status, c.finish.ensures.line)

pub returns-in-Err : goal.returns-in-Err
returns-in-Err g c =
    spec.arguments_refused c.in-Err.fault c.in-Err.ensures.unreadable c.in-Err.ensures.err refl refl
    (rw c.from.ensures at c.finish-in-Err.ensures.status, rw c.from.ensures at c.finish-in-Err.ensures.line)
