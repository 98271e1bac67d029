use Rattle.desk_server.proofs.between.BetweenInlet.fill.Goals as goal
use Rattle.std.proofs.{Common.{refl, rules, ◌∙◌}, KnownBytes.{Keeps-refl, Keeps-trans}}
use Rattle.desk_server.{proofs.ServerLemmas.{alone_none, one_command_more}, specs.Between.{no_wait, wait_again}}

pub loop-commanded-init : goal.loop-commanded-init
loop-commanded-init g c = record { waited = no_wait; reads_nothing = Keeps-refl _; counted = refl; alone = alone_none _ _ _ _ _ _ }

pub loop-commanded-preserved : goal.loop-commanded-preserved
loop-commanded-preserved g c =
    let so_far = c.loop-commanded.invariant in
    let wait = c.in-Some.ensures in
    record {
      waited = wait_again _ _ so_far.waited wait.waited;
      reads_nothing = Keeps-trans _ _ _ so_far.reads_nothing wait.reads_nothing;
      counted = wait.counted ∙ so_far.counted;
      alone = let commands = one_command_more _ _ _ _ _ _ _ _ _ _ _ _ _ so_far.alone.commands c.carry_out.ensures in search rules;
    }

pub returns-in-None-clause-called : goal.returns-in-None-clause-called
returns-in-None-clause-called g c =
    let waits = wait_again _ _ c.loop-commanded.invariant.waited c.in-None.ensures.waited in
    (search rules, record { awaited = c.command_before.new.self; waits = waits; fills = c.fill.ensures.called })
