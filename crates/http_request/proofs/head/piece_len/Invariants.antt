use Rattle.http_request.proofs.Common.{◌≡◌, ℕ, ◌<◌, ◌≤◌, false, take, nat_eq, ends_with, empty_line}
use Rattle.http_request.proofs.head.piece_len.Given as goal

abbrev pub invariant-loop-end : goal.invariant-loop-end
invariant-loop-end l = (k : ℕ) → k < l.end → k ≤ 16384 → ends_with nat_eq (take k l.bytes) empty_line ≡ false
