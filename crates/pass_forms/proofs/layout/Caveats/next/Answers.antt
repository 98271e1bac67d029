use Rattle.pass_forms.proofs.layout.Caveats.next.Goals as goal
use Rattle.pass_forms.proofs.{Common.{◌≡◌, suc, arith, common_steps}, ReadingLemmas.{no_more, one_more}}

pub returns-in_err-self-clause-none : goal.returns-in_err-self-clause-none
returns-in_err-self-clause-none g c =
    let none : c.args.self.now.count ≡ 0 = omega (arith, c.in_err-self.ensures) in
    grind (arith, common_steps, no_more g.L.Layout.caveat_at c.args.self.now.bytes.now)

pub returns-clause-some : goal.returns-clause-some
returns-clause-some g c =
    let one_less : c.args.self.now.count ≡ suc c.in_ok-self.field-0 = omega (arith, c.in_ok-self.ensures) in
    grind (arith, common_steps, one_more g.L.Layout.caveat_at _ _ c.args.self.now.bytes.now one_less)
