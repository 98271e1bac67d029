use Rattle.std.proofs.Common.{◌≡◌, arith}
use Rattle.clubdesk_files.specs.Retried as spec
use Rattle.clubdesk_files.proofs.attempts.gain.Goals as goal

pub loop-tried-init : goal.loop-tried-init
loop-tried-init g c = spec.no_attempt

pub loop-tried-preserved : goal.loop-tried-preserved
loop-tried-preserved g c = spec.one_more c.loop-tried.tried _ _ c.loop-tried.invariant c.in-None.ensures

pub returns-in-Some : goal.returns-in-Some
returns-in-Some g c = (c.loop-tried.tried, c.loop-tried.attempts, omega arith, c.loop-tried.invariant, c.in-Some.ensures)

pub returns : goal.returns
returns g c = let last : c.loop-tried.tried ≡ c.args.most = omega arith in rw last at c.loop-tried.invariant
