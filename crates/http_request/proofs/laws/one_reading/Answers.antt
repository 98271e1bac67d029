use Rattle.http_request.proofs.laws.one_reading.Goals as goal
use Rattle.http_request.proofs.FrameLemmas.{one}

pub returns : goal.returns
returns c = one c.reads_places.ensures
