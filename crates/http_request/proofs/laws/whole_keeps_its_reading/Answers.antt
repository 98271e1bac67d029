use Rattle.http_request.proofs.laws.whole_keeps_its_reading.Goals as goal
use Rattle.http_request.proofs.FrameLemmas.{keeps}

pub returns : goal.returns
returns c = keeps
