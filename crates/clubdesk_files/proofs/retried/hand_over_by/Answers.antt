use Rattle.std.proofs.Common.{IsTrue, inl, inr, refl, subst, Ok, Err}
use Rattle.std.specs.{IoError.error_kind, String.string_bytes}
use Rattle.clubdesk_files.specs.Kinds.{IsLeftUnread}
use Rattle.clubdesk_files.proofs.retried.hand_over_by.Goals as goal

pub returns-in-Ok : goal.returns-in-Ok
returns-in-Ok g c = record {
  outcome = Ok (c.in-Ok.answer.0, string_bytes c.in-Ok.answer.1);
  communicates = (c.in-Ok.ensures.sent, c.in-Ok.ensures.read);
  concludes = refl;
}

pub returns-then-is_unread : goal.returns-then-is_unread
returns-then-is_unread g c = record {
  outcome = Err (error_kind c.in-Err.error);
  communicates = c.in-Err.ensures.failed;
  concludes = inl (subst IsLeftUnread c.kind.ensures (c.is_unread.ensures.0 c.if-is_unread.true), c.nothing_done.ensures);
}

pub returns-else-is_unread : goal.returns-else-is_unread
returns-else-is_unread g c =
    let read : ¬ IsLeftUnread c.kind.result =
    λ is. let unread : IsTrue c.is_unread.result = c.is_unread.ensures.1 is in let not_unread = c.if-is_unread.false in cc in
    record {
      outcome = Err (error_kind c.in-Err.error);
      communicates = c.in-Err.ensures.failed;
      concludes = inr (subst (λ kind. ¬ IsLeftUnread kind) c.kind.ensures read, refl);
    }
