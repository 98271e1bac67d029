use Rattle.http_request.proofs.scan.HeadScan.is_over.Goals as goal
use Rattle.http_request.proofs.{Common.{IsTrue, arith, false, true, ◌↔◌, ◌≡◌}, FrameLemmas.{no_piece, not_refused, only, body_only}}

tested_none : (P : Type 0) → ¬ P → IsTrue false ↔ P
tested_none P none = (λ test. let bad : false ≡ true = test in cc, λ holds. absurd (none holds))

pub returns-in-NoPiece : goal.returns-in-NoPiece
returns-in-NoPiece c = tested_none _ (λ one. no_piece (only one).cut (rw c.in-NoPiece.is at c.requires))

pub returns-in-Refused : goal.returns-in-Refused
returns-in-Refused c = tested_none _ (λ one. not_refused (only one) (rw c.in-Refused.is at c.requires))

pub returns-in-Asking : goal.returns-in-Asking
returns-in-Asking c = grind (arith, body_only c.args.bytes.now c.args.self.now.fields c.in-Asking.head (rw c.in-Asking.is at c.requires))
