use Rattle.club_http.proofs.face.Face.reply.Goals as goal
use Rattle.std.proofs.Common.{inl, inr, refl, ap}
use Rattle.club_core.specs.declared.reply.Reply.TheVariants.{Refused}
use Rattle.club_http.specs.Exchange.{parser_refusal, desk_reply, out_of_memory}

pub returns-in-Ok : goal.returns-in-Ok
returns-in-Ok g c = desk_reply _ (rw c.request.ensures at c.in-Ok.ensures) c.ask.ensures

pub returns-in-Err : goal.returns-in-Err
returns-in-Err g c = elim (rw c.request.ensures at c.in-Err.ensures) [
  | inl memory ↦ out_of_memory memory.1 (ap Refused memory.0) refl
  | inr reading ↦ parser_refusal c.in-Err.refusal reading refl refl
]
