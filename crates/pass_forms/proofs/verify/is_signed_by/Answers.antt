use Rattle.pass_forms.proofs.verify.is_signed_by.Goals as goal
use Rattle.pass_forms.proofs.{Common.{arith, common_steps}, ReadingLemmas.signed_if}

pub returns-in-Signature-clause-signed : goal.returns-in-Signature-clause-signed
returns-in-Signature-clause-signed g c = signed_if c.same.result c.args.chain (g.F.FieldSource.left c.args.source.now) (grind (arith, common_steps))

pub returns-in-Location-clause-signed : goal.returns-in-Location-clause-signed
returns-in-Location-clause-signed g c = signed_if _ c.args.chain (g.F.FieldSource.left c.args.source.now) (grind (arith, common_steps))

pub returns-clause-signed : goal.returns-clause-signed
returns-clause-signed g c = signed_if _ c.args.chain (g.F.FieldSource.left c.args.source.now) (grind (arith, common_steps))
