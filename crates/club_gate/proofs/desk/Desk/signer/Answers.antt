use Rattle.club_gate.proofs.desk.Desk.signer.Given as given
use Rattle.club_gate.proofs.desk.Desk.signer.Goals as goal
use Rattle.club_core.specs.declared.refusal.Refusal.TheVariants.{KeyRevoked, NotVerified}
use Rattle.club_gate.proofs.{Common.{Club, Err, List, Ok, Plain, arith, false, pass_fields, refl, rules, sym, ◌∙◌, ◌≡◌}, DeskLemmas.reads}
use Rattle.club_gate.{proofs.{VerifyLemmas.{by_tests, key_there}, desk.Desk.signer.Goals.In_ok-is_signed}, specs.{DecodedPass.key_in, Verify.signer_of}}

by_row : (g : given.Over) (c : In_ok-is_signed g) → g.S.ClubStore.ghosts.is_clean c.is_signed.new.self → (club : Club) (others : List Club)
    → g.S.ClubStore.ghosts.represents c.args.self.now club others → (pass : Plain) → g.F.FieldSource.left c.args.source.now ≡ pass_fields pass
    → signer_of pass c.args.moment (key_in club pass.identifier)
    ≡ by_tests c.in_ok-is_signed.field-0 c.in-Some-2.row.revoked (Err NotVerified) (Err KeyRevoked) (Ok c.in-Some-2.row)
by_row g c clean club others represents pass fields =
    let between = c.is_signed.ensures.was_clean clean in
    let after = c.key_row.ensures.kept between club others represents in
    let source = c.in-Some.ensures pass (c.again-fields.ensures ∙ fields) in
    let found = rw source.0 at (c.in_ok-row.ensures.returned between club others represents) in
    grind (arith, key_there, sym c.in-Some-2.is ∙ found)

pub returns-then-not-branch : goal.returns-then-not-branch
returns-then-not-branch g c = reads g.met.S.ClubStore.sound (search rules) (λ clean club others represents sound pass fields.
    let fails : c.in_ok-is_signed.field-0 ≡ false = cc in
    rw (by_row g (goal.at.returns-then-not-branch g c).In_ok-is_signed clean club others represents pass fields, fails) refl)

pub returns-then-row : goal.returns-then-row
returns-then-row g c = grind (arith, reads, by_row)

pub returns : goal.returns
returns g c = grind (arith, reads, by_row)
