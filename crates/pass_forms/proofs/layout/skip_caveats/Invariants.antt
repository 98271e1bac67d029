-- After each iteration, `Keeps` relates the scanned caveats and the remaining caveats to all
-- caveats. The number of scanned caveats is at most the number of iterations.
use Rattle.pass_forms.proofs.layout.skip_caveats.Given as goal
use Rattle.pass_forms.proofs.{Common.{length, ◌≤◌, ◌-◌, caveats_at}, ReadingLemmas.Keeps}

abbrev pub invariant-loop : goal.invariant-loop
invariant-loop g l = Keeps l.skipped.count l.skipped.third_party (caveats_at g.L.Layout.caveat_at (length l.bytes - l.counter) l.skipped.rest.now)
    (caveats_at g.L.Layout.caveat_at (length l.bytes) l.bytes) × (l.skipped.count ≤ l.counter)
