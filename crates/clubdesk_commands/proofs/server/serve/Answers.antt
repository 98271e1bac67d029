use Rattle.desk_server.specs.Served as served
use Rattle.clubdesk_commands.specs.Run as spec
use Rattle.clubdesk_commands.proofs.server.serve.Goals as goal
use Rattle.std.proofs.Common.{refl, ◌≡◌, ◌⊎◌, ℕ, [], Result, Err, inl, inr}
use Rattle.clubdesk_arguments.specs.declared.fault.Fault.{Fault, TheVariants.{Memory, InputOutput}}
use Rattle.clubdesk_commands.{proofs.RunLemmas.over_others, specs.{Output.Stream, Run.StopsBefore}}

stops : (asked : ℕ) (written : Stream) (fault : Fault) → StopsBefore asked written fault
    → let result : Result Unit Fault = Err fault in (result ≡ Err Memory) ⊎ (result ≡ Err InputOutput)
stops asked written Memory is = inl refl
stops asked written InputOutput is = inr refl
stops asked written fault is = absurd is

pub returns-in-Err-clause-served : goal.returns-in-Err-clause-served
returns-in-Err-clause-served g c = ([], spec.not_listened (stops _ _ _ c.in-Err.ensures) refl refl served.nothing)

pub returns-then-logs-clause-served : goal.returns-then-logs-clause-served
returns-then-logs-clause-served g c =
    let it = rw c.new-arrivals.ensures.failures at c.serve_logged.ensures in
    rw c.outcome_of.ensures (it.all, spec.listened _ _ _ refl (over_others (λ bytes written outcome ended. tt) it.serves) (λ asked. it.besides.1))

pub returns-clause-served : goal.returns-clause-served
returns-clause-served g c =
    let it = rw c.new-arrivals.ensures.failures at c.serve_on.ensures in
    rw c.outcome_of-else-logs.ensures
    (it.all, spec.listened _ _ _ refl (over_others (λ bytes written outcome ended. tt) it.serves) (λ asked. let left_out = c.if-logs.false in cc))
