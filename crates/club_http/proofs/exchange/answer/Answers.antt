use Rattle.club_http.proofs.exchange.answer.Goals as goal
use Rattle.std.{proofs.Common.◌≡◌, specs.Io.KnownBytes.Appends}
use Rattle.club_http.proofs.ExchangeLemmas.{exchanged_to_all}

pub returns-clause-exchanged : goal.returns-clause-exchanged
returns-clause-exchanged g c =
    exchanged_to_all _ _ _ _ _ _ c.whole_keeps_its_reading.ensures c.body_stays.ensures c.in-Some.ensures.received (c.respond.new.desk ≡ c.args.desk.now)
    (Appends (g.W.Outlet.taken c.args.writer.now) (g.W.Outlet.taken c.respond.new.writer)) _ c.respond.ensures.exchanged
