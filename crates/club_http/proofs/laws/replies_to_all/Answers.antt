use Rattle.club_http.proofs.laws.replies_to_all.Goals as goal
use Rattle.club_http.proofs.ExchangeLemmas.{replied_to_all}

pub returns : goal.returns
returns g c moment before after bytes old reply new received replied =
    replied_to_all (g.D.Responder.answers moment) before after bytes old reply new c.whole_keeps_its_reading.ensures c.body_stays.ensures received replied
