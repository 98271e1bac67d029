use Rattle.clubdesk_files.specs.Retried as spec
use Rattle.std.proofs.Common.{refl}
use Rattle.clubdesk_files.proofs.handover.answered.Goals as goal

pub returns-in-Err-end-clause-failed : goal.returns-in-Err-end-clause-failed
returns-in-Err-end-clause-failed g c = spec.unended c.send.new.self c.in_default.ensures.sent c.in-Err-end.ensures.failed refl
