use Rattle.clubdesk_commands.specs.OfficeDesk as spec
use Rattle.clubdesk_commands.proofs.office_desk.answer_command.Goals as goal
use Rattle.std.{proofs.Common.{Err, ap, map, refl, sym, subst}, specs.String.string_bytes}
use Rattle.clubdesk_arguments.specs.Arguments.{ReadsArguments}
use Rattle.clubdesk_commands.proofs.RunLemmas.{asks_for}

pub returns-in-Ok-ShowText : goal.returns-in-Ok-ShowText
returns-in-Ok-ShowText g c =
    (refl, spec.text_asked c.in-Ok-ShowText._text (rw (c.in-Ok-ShowText.field-0-is, c.as_slice.ensures.value) at c.in-Ok-ShowText.ensures))

pub returns-in-Err : goal.returns-in-Err
returns-in-Err g c =
    spec.arguments_refused c.in-Err.fault
    (subst (λ texts. ReadsArguments texts (Err c.in-Err.fault)) (ap (map string_bytes) c.as_slice.ensures.value) c.in-Err.ensures) (ap Err c.from.ensures) refl

pub returns-in-Office : goal.returns-in-Office
returns-in-Office g c =
    spec.task_done _ c.in-Office.task
    (asks_for _ c.as_slice.ensures.value c.in-Ok-Perform.ensures c.in-Ok-Perform.field-0-is c.job.view_is c.in-Office.is) c.carry_out.ensures.does

pub returns-in-Some : goal.returns-in-Some
returns-in-Some g c =
    spec.key_done _ c.in-Rootless.given c.in-Some.root
    (asks_for _ c.as_slice.ensures.value c.in-Ok-Perform.ensures c.in-Ok-Perform.field-0-is c.job.view_is c.in-Rootless.is)
    (sym (rw c.as_bytes.ensures.value at c.in-Some.ensures)) c.carry_out-in-Some.ensures.does

pub returns-in-None : goal.returns-in-None
returns-in-None g c =
    spec.root_refused _ c.in-Rootless.given
    (asks_for _ c.as_slice.ensures.value c.in-Ok-Perform.ensures c.in-Ok-Perform.field-0-is c.job.view_is c.in-Rootless.is)
    (sym (rw c.as_bytes.ensures.value at c.in-None.ensures)) refl refl

pub returns-in-Serve : goal.returns-in-Serve
returns-in-Serve g c = (
  refl,
  spec.server_asked _ c.in-Serve._service
      (asks_for _ c.as_slice.ensures.value c.in-Ok-Perform.ensures c.in-Ok-Perform.field-0-is c.job.view_is c.in-Serve.is),
)
