use Rattle.desk_server.proofs.between.receive_in.Goals as goal
use Rattle.desk_server.proofs.ServerLemmas.{alone_more, alone_none, reads_as, reads_kept}

pub returns-clause-alone : goal.returns-clause-alone
returns-clause-alone g c = reads_kept _ _ (alone_none _ _ _ _ _) (alone_more _ _ _ _ _) (λ old given room new call. call.0) _ _ _ c.receive.ensures.calls

pub returns-clause-calls : goal.returns-clause-calls
returns-clause-calls g c = reads_as (λ lent. lent.reader.now) _ _ (λ old given room new call. call.1) _ _ _ c.receive.ensures.calls
