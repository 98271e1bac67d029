-- Each answer so far reports that no server has carried out the command.
use Rattle.clubdesk_files.specs.Retried.{IsHandedInVain}
use Rattle.clubdesk_files.proofs.retried.hand_over_until_done.Given as goal

abbrev pub invariant-loop-tried : goal.invariant-loop-tried
invariant-loop-tried g l = IsHandedInVain g.S.Servers.hands l.command l.initial.servers l.servers
