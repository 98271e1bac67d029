use Rattle.http_request.proofs.head_result.head_result_of.Goals as goal
use Rattle.http_request.proofs.Common.{AsksForBody, IsPiece, IsRefusedHead, List, RequestHead, arith, drop, sym, take, take-append-drop, ℕ, ◌∙◌}
use Rattle.http_request.proofs.FrameLemmas.{one_head}

refused_at : (bytes : List ℕ) (n : ℕ) → IsPiece (take n bytes) → ((head : RequestHead) (body_len : ℕ) → ¬ (AsksForBody (take n bytes) head body_len)) →
    IsRefusedHead bytes
refused_at bytes n cut refusal = record { piece = take n bytes; rest = drop n bytes; cut = cut; parts = sym (take-append-drop n bytes); refusal = refusal }

pub returns-in_default-read_head : goal.returns-in_default-read_head
returns-in_default-read_head c = grind (arith, refused_at)

pub returns-in_default-asked_length : goal.returns-in_default-asked_length
returns-in_default-asked_length c =
    let found = c.in-Some-read_head.ensures.1 in
    let none = rw (c.of-method.ensures, found.2.method, found.2.fields) at (sym c.asked_length.ensures ∙ c.in_default-asked_length.is) in
    refused_at c.args.bytes.now c.in-Some.len c.in-Some.ensures.1 (λ other body_len asks.
    let some = rw (one_head found.1 asks.is) at asks.requests in cc)
