-- Each iteration preserves the concatenation of the buffer and the packets of the remaining
-- caveats.
use Rattle.pass_forms.proofs.write.packets.put_caveats.Given as goal
use Rattle.pass_forms.proofs.{Common.{caveat_packets, ◌++◌, ◌≡◌}, ReadingLemmas.left_from}

abbrev pub invariant-loop-caveat : goal.invariant-loop-caveat
invariant-loop-caveat l = l.buffer ++ left_from caveat_packets l.caveats l.caveat-index ≡ l.initial.buffer ++ left_from caveat_packets l.caveats 0
