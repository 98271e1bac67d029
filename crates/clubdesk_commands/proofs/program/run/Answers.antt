use Rattle.clubdesk_commands.specs.Run as spec
use Rattle.clubdesk_commands.proofs.program.run.Goals as goal
use Rattle.std.proofs.Common.{Err, ap, refl}
use Rattle.clubdesk_commands.proofs.{RunLemmas.{asks_for, serves_well}, program.run.Goals.{in-Office, in-Rootless+in-Ok}}

pub returns-in-Ok-ShowText : goal.returns-in-Ok-ShowText
returns-in-Ok-ShowText g c =
    spec.text_shown c.in-Ok-ShowText.text (rw c.in-Ok-ShowText.field-0-is at c.in-Ok-ShowText.ensures) c.show.ensures refl refl refl

pub returns-in-Err : goal.returns-in-Err
returns-in-Err g c = spec.arguments_refused c.in-Err.fault c.in-Err.ensures (ap Err c.from.ensures) refl refl refl refl

pub returns : goal.returns
returns g c = elim c.match-work.branch [
  | in-Office w ↦
      rw w.reader-is (spec.task_asked _ w.in-Office.task
      (asks_for _ refl c.in-Ok-Perform.ensures c.in-Ok-Perform.field-0-is c.job.view_is w.in-Office.is)
      (rw w.task-is at c.perform.ensures.performs) c.perform.ensures.ends refl refl)
  | in-Rootless+in-Ok w ↦
      rw w.reader-is (spec.key_asked _ w.in-Rootless.command w.in-Ok.root
      (asks_for _ refl c.in-Ok-Perform.ensures c.in-Ok-Perform.field-0-is c.job.view_is w.in-Rootless.is)
      w.in-Ok.ensures (rw w.task-is at c.perform.ensures.performs) c.perform.ensures.ends refl)
]

pub returns-in-Err-read_root : goal.returns-in-Err-read_root
returns-in-Err-read_root g c =
    spec.root_refused _ c.in-Rootless.command c.in-Err-read_root.fault
    (asks_for _ refl c.in-Ok-Perform.ensures c.in-Ok-Perform.field-0-is c.job.view_is c.in-Rootless.is)
    c.in-Err-read_root.ensures refl refl refl refl

pub returns-in-Serve : goal.returns-in-Serve
returns-in-Serve g c =
    spec.server_asked _ c.in-Serve.service
    (asks_for _ refl c.in-Ok-Perform.ensures c.in-Ok-Perform.field-0-is c.job.view_is c.in-Serve.is)
    c.serve_file.ensures.done (serves_well c.serve_file.ensures.done) refl c.serve_file.ensures.unlogged
