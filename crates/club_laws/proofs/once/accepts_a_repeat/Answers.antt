use Rattle.club_core.specs.declared.request.Request.TheVariants as asked
use Rattle.club_laws.proofs.once.accepts_a_repeat.Goals as goal
use Rattle.std.proofs.{Common.{[], ◌∷◌, Some, None, Ok, refl, inl, true, false, codes}, lemmas.List.Elements.{All-nil, All-cons}}
use Rattle.club_core.specs.{Answer.ask_of, Basis.{Basis, view_of}, Examples.{opened_club, slot_at, noon, late, root, ask}, Laws.IsAllowedBy, Run.club_after}
use Rattle.club_laws.{proofs.AnswerCases.basis_with, specs.Examples.{booked_then_cancelled, words_again}}
use Rattle.pass_caveats.specs.declared.caveat.Caveat.TheVariants.{Spend}

-- The basis of the repeated request.
abbrev named : Basis
named =
    basis_with (club_after opened_club booked_then_cancelled) words_again.request
    (record { name = codes "amy-1"; member = codes "amy"; root = root; older = None; revoked = false })
    (record { name = codes "amy"; credited = 10_000; quota = 5 })

pub returns : goal.returns
returns c = record {
  was_served = record {
    front = [];
    first = record {
      pass = Ok (record { key = Some (codes "amy-1"); caveats = []; is_signed = λ _. true });
      request = asked.Book (slot_at 18) 7 2;
    };
    moment = noon;
    rest = ask (asked.Cancel (slot_at 18) 7) noon ∷ [];
    place = refl;
    reply_is = refl;
    success = tt;
    same_key = refl;
    same_request = refl;
  };
  acceptance = record {
    pass = record { key = Some (codes "amy-1"); caveats = Some (Spend 0) ∷ []; is_signed = λ _. true };
    basis = named;
    read = refl;
    known = refl;
    acceptance = record {
      signed = record { root = root; good = inl refl; signed = refl };
      not_revoked = refl;
      permission = All-cons (IsAllowedBy (ask_of (view_of named words_again.request late) words_again.request late)) (Some (Spend 0)) [] (inl refl) (All-nil _);
    };
  };
}
