use Rattle.http_request.proofs.RouteLemmas.{from_the_front}
use Rattle.http_request.proofs.path.next_part.Goals as goal

pub loop-i-init : goal.loop-i-init
loop-i-init c = from_the_front c.args.path.now
