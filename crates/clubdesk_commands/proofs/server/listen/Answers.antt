use Rattle.std.proofs.Common.{◌∙◌, inr}
use Rattle.clubdesk_commands.proofs.server.listen.Goals as goal

pub returns-in-Ok-write_text : goal.returns-in-Ok-write_text
returns-in-Ok-write_text g c =
    (c.in-Ok.port, c.in-Ok.ensures, rw (c.as_str.ensures.value ∙ c.in-Ok-format.ensures.ok) at c.in-Ok-write_text.ensures.ok)

pub returns-in-Err : goal.returns-in-Err
returns-in-Err g c = inr (c.in-Ok.port, c.in-Ok.ensures, rw (c.as_str.ensures.value ∙ c.in-Ok-format.ensures.ok) at c.in-Err.ensures.err)
