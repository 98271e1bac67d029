use Rattle.club_tables.proofs.writes.is_within.Goals as goal
use Rattle.club_tables.proofs.{Common.{arith, nat_tests}, NumberLemmas.numbers_if_fits, OpenLemmas.{quota_if_fits, refund_if_fits}}

pub returns-in-ReplaceQuota-clause-unfit : goal.returns-in-ReplaceQuota-clause-unfit
returns-in-ReplaceQuota-clause-unfit c = λ off club fits. let low = quota_if_fits _ _ club (rw c.in-ReplaceQuota.is at fits) in grind (arith, nat_tests)

pub returns-in-ReplaceNumbers-clause-unfit : goal.returns-in-ReplaceNumbers-clause-unfit
returns-in-ReplaceNumbers-clause-unfit c = λ off club fits. let are = numbers_if_fits club _ _ _ _ _ (rw c.in-ReplaceNumbers.is at fits) in grind arith

pub returns-in-MarkCancelled-clause-unfit : goal.returns-in-MarkCancelled-clause-unfit
returns-in-MarkCancelled-clause-unfit c = λ off club fits. let low = refund_if_fits _ _ _ club (rw c.in-MarkCancelled.is at fits) in grind (arith, nat_tests)
