-- Each iteration preserves the concatenation of the buffer and the sections of the remaining
-- caveats.
use Rattle.pass_forms.proofs.write.sections.put_caveats.Given as goal
use Rattle.pass_forms.proofs.{Common.{caveat_section, ◌++◌, ◌≡◌}, ReadingLemmas.left_from}

abbrev pub invariant-loop-caveat : goal.invariant-loop-caveat
invariant-loop-caveat l = l.buffer ++ left_from caveat_section l.caveats l.caveat-index ≡ l.initial.buffer ++ left_from caveat_section l.caveats 0
