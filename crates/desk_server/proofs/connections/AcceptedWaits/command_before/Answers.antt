use Rattle.desk_server.proofs.connections.AcceptedWaits.command_before.Goals as goal
use Rattle.desk_server.proofs.ServerLemmas.{waited_not}

pub loop-init : goal.loop-init
loop-init g c = waited_not _ _ _
