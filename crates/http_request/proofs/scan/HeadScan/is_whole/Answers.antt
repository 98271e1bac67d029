use Rattle.http_request.proofs.scan.HeadScan.is_whole.Goals as goal
use Rattle.http_request.proofs.{Common.{IsTrue, arith, cases_lt, le-leb, leb, leb-true, ℕ, ◌<◌, ◌↔◌, ◌≤◌, endless, has_frame, length-drop}, FrameLemmas.asks_at}
use Rattle.http_request.proofs.FrameLemmas.{whole_frame, open_body, open_head}

tested : (a b : ℕ) (P : Type 0) → (a ≤ b → P) → (b < a → ¬ P) → IsTrue (leb a b) ↔ P
tested a b P holds_if fails_if = grind (arith, cases_lt, leb-true, le-leb)

pub returns-in-NoPiece-clause-whole : goal.returns-in-NoPiece-clause-whole
returns-in-NoPiece-clause-whole c =
    let none = rw c.in-NoPiece.is at c.requires in
    tested _ _ _ (λ long. endless none long) (λ short. open_head c.args.bytes.now none short)

pub returns-in-Asking-clause-whole : goal.returns-in-Asking-clause-whole
returns-in-Asking-clause-whole c =
    let at = rw c.in-Asking.is at c.requires in
    let rest = length-drop c.in-Asking.head.len c.args.bytes.now in
    tested _ _ _ (λ there. has_frame at.head _ (whole_frame at (omega arith))) (λ short. open_body (asks_at at) (omega arith))
