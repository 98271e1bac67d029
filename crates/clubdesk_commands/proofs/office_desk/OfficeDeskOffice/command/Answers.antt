use Rattle.clubdesk_commands.specs.OfficeDesk as spec
use Rattle.clubdesk_commands.proofs.office_desk.OfficeDeskOffice.command.Goals as goal
use Rattle.std.{proofs.Common.{Ok, Err, ap, refl, ◌∙◌}, specs.String.string_bytes}
use Rattle.clubdesk_commands.proofs.RunLemmas.{named}

pub returns-in-Some-Ok : goal.returns-in-Some-Ok
returns-in-Some-Ok g c =
    rw (← c.self.view_is) (
      (spec.command_done _ _ (Ok (string_bytes c.in-Some-Ok.text)) (rw c.in-Ok-Some.field-0-is at c.in-Ok-Some.ensures)
          (rw c.in-Some-Ok.field-0-is at c.in-Some-Ok.ensures)
          (c.answer_of-in-Some-Ok.ensures.status, ap string_bytes c.answer_of-in-Some-Ok.ensures.text)
          (c.answer_of-in-Some-Ok.ensures.line ∙ ap spec.named_line (named _ _ (rw c.deref.ensures.value at c.get.ensures.lookup)))),
      refl,
    )

pub returns : goal.returns
returns g c =
    rw (← c.self.view_is) (
      (spec.command_done _ _ (Err c.in-Some-Err.fault) (rw c.in-Ok-Some.field-0-is at c.in-Ok-Some.ensures)
          (rw c.in-Some-Err.field-0-is at c.in-Some-Err.ensures) c.refusal_of.ensures.answers
          (c.refusal_of.ensures.line
          ∙ ap (λ name. spec.logged_line (Err c.in-Some-Err.fault) name)
          (named _ _ (rw c.deref-in-Some-Err.ensures.value at c.get-in-Some-Err.ensures.lookup)))),
      refl,
    )

pub returns-in-None : goal.returns-in-None
returns-in-None g c =
    rw (← c.self.view_is) (
      (spec.not_office _ _ (rw c.in-Ok-Some.field-0-is at c.in-Ok-Some.ensures) c.in-None.ensures.1
          (c.answer_of-in-None.ensures.status, c.answer_of-in-None.ensures.line) c.in-None.ensures.0),
      refl,
    )
