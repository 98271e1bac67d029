use Rattle.http_request.proofs.Common.{◌≡◌, drop, values_in_head}
use Rattle.http_request.proofs.fields.next_value.Given as goal

abbrev pub invariant-loop-i : goal.invariant-loop-i
invariant-loop-i l = values_in_head l.head l.name l.fields ≡ values_in_head l.head l.name (drop l.i l.fields)
