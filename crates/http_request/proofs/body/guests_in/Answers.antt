use Rattle.http_request.proofs.Common.{arith, guests_in}
use Rattle.http_request.proofs.body.guests_in.Goals as goal

pub returns-in-Ok : goal.returns-in-Ok
unfolding guests_in
returns-in-Ok c = grind arith

pub returns-in-Err : goal.returns-in-Err
unfolding guests_in
returns-in-Err c = grind arith
