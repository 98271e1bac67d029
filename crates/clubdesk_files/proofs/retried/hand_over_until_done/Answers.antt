use Rattle.clubdesk_files.specs.Retried as spec
use Rattle.clubdesk_files.proofs.retried.hand_over_until_done.Goals as goal

pub loop-tried-init : goal.loop-tried-init
loop-tried-init g c = spec.not_yet

pub loop-tried-preserved : goal.loop-tried-preserved
loop-tried-preserved g c = spec.once_more _ _ _ c.loop-tried.invariant c.hand_over-answer.ensures (c.is_nothing_done.ensures.0 c.if-not-is_nothing_done.false)

pub returns-then-not-is_nothing_done : goal.returns-then-not-is_nothing_done
returns-then-not-is_nothing_done g c = record { mid = c.loop-tried.servers; in_vain = c.loop-tried.invariant; hands = c.hand_over-answer.ensures }

pub returns : goal.returns
returns g c = record { mid = c.loop-tried.servers; in_vain = c.loop-tried.invariant; hands = c.hand_over.ensures }
