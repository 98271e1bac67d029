use Rattle.club_gate.proofs.desk.Desk.verdict_of.Goals as goal
use Rattle.club_gate.proofs.{Common.{sym, ◌∙◌, rules, arith}, DeskLemmas.reads, VerifyLemmas.{member_of, key_there}}

pub returns-in-Err : goal.returns-in-Err
returns-in-Err g c = reads g.met.S.ClubStore.sound (search rules) (λ was_clean club others represents sound pass fields short.
    let found = c.in_ok-key.ensures.returned was_clean club others represents pass fields in
    c.refuse.ensures ∙ (grind (arith, member_of, key_there, sym found ∙ c.in-Err.is)))
