use Rattle.http_request.proofs.{Common.{bytes_eq, codes, false, sym, ◌∙◌, ◌≡◌}, RouteLemmas.past_account}
use Rattle.http_request.proofs.path.under_root.Goals as goal

pub returns-then-is_some : goal.returns-then-is_some
returns-then-is_some c =
    let word = c.next_part.result.0.now in
    let other : bytes_eq word (codes "slots") ≡ false = rw c.as_slice.ensures at (sym c.eq.ensures ∙ c.if-eq.false) in
    rw (c.next_part.ensures, other) (sym (past_account word c.next_part.result.1 (sym c.is_some.ensures ∙ c.if-is_some.true)))
