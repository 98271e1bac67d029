use Rattle.desk_server.proofs.laws.a_log_has_its_lines.Goals as goal
use Rattle.std.proofs.Common.{ap}
use Rattle.desk_server.proofs.ServerLemmas.{writes_lines}

pub returns : goal.returns
returns g c =
    writes_lines _ _ (λ log. g.W.Outlet.taken log.writer) (λ log. g.W.Outlet.failures log.writer)
    (λ old new same. (ap g.W.Outlet.taken same, ap g.W.Outlet.failures same)) (λ old event new noted. noted)
