use Rattle.club_values.proofs.inline_bytes.InlineBytes.new.Goals as goal
use Rattle.std.proofs.Common.{arith}
use Rattle.club_values.proofs.TextLemmas.{IsPadded-front}

pub invariant_of-result : goal.invariant_of-result
invariant_of-result g c = IsPadded-front g.row.N c.args.bytes.now _ (omega arith) c.copy_from_slice.ensures.after
