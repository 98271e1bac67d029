use Rattle.std.proofs.{Common.{◌≡◌, length, vec_len, arith}, lemmas.{Grind.common_steps, List.with_items_is}}
use Rattle.club_http.proofs.face.Face.receive.Goals as goal

pub returns-in-Ok-clause-received : goal.returns-in-Ok-clause-received
returns-in-Ok-clause-received g c =
    let len : length c.receive.new.room ≡ vec_len c.self.inside.buffer = grind (arith, common_steps) in
    rw (with_items_is c.self.inside.buffer c.receive.new.room len) c.in-Ok.ensures.received.2
