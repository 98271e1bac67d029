use Rattle.club_gate.proofs.desk.Desk.has_spent_within.Goals as goal
use Rattle.std.proofs.lemmas.Bool.Decides.{nat_tests}
use Rattle.club_gate.proofs.{Common.{arith, rules, sym, ◌∙◌, ◌≤◌}, DeskLemmas.reads, VerifyLemmas.spent_within}

pub returns : goal.returns
returns g c = reads g.met.S.ClubStore.sound (search rules) (λ was_clean club others represents sound within row.
    let found = c.in_ok-account.ensures.returned was_clean club others (rw (← c.self.view_is) at represents) in
    let less : c.from.result ≤ c.args.most = grind (arith, nat_tests, within) in
    spent_within c.spends_within_its_member.ensures c.accounts_show_what_is_used.ensures club c.args.key.now c.in-Some.account c.from.result
    c.args.most sound row (sym found ∙ c.in-Some.is) (c.from.ensures ∙ c.used.ensures) less)
