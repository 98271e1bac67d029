-- All attempts so far have failed.
use Rattle.clubdesk_files.proofs.attempts.gain.Given as goal
use Rattle.clubdesk_files.specs.Retried.{AreInVain}

abbrev pub invariant-loop-tried : goal.invariant-loop-tried
invariant-loop-tried g l = AreInVain g.A.Attempts.gains l.initial.attempts l.tried l.attempts
