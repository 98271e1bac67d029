use Rattle.http_request.proofs.Common.{◌≡◌, take, drop, with_front, segments}
use Rattle.http_request.proofs.path.next_part.Given as goal

abbrev pub invariant-loop-i : goal.invariant-loop-i
invariant-loop-i l = segments l.path ≡ with_front (take l.i l.path) (segments (drop l.i l.path))
