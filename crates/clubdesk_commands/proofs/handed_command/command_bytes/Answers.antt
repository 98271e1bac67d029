use Rattle.clubdesk_commands.proofs.handed_command.command_bytes.Goals as goal
use Rattle.std.proofs.{Common.{arith, ◌≡◌, ◌≤◌, ◌∷◌, ap, map, Some, ◌∙◌}, lemmas.{List.take_all, Result.IfOk-weaker}}
use Rattle.clap.proofs.WalkLemmas.{IfOk-both}
use Rattle.clubdesk_commands.{proofs.RunLemmas.no_depth, specs.HandedCommand.command_data}
use Rattle.serde_json.{proofs.Views.view-Array, specs.{Data.{array, depth}, Read.max_depth, View.{items_of, view}, declared.value.Value.Array}}

pub returns : goal.returns
returns g c =
    let arguments = map g.S.AsStr.text c.args.arguments.now in
    let values : view (Array c.loop-argument.texts) ≡ command_data c.args.root.now arguments =
    view-Array c.loop-argument.texts ∙ ap (λ values. array (items_of values))
    (rw (take_all c.loop-argument.argument-index c.args.arguments.now c.loop-argument-test.false) at c.loop-argument.invariant) in
    let flat : depth (view (Array c.loop-argument.texts)) ≤ max_depth = rw (values, no_depth (c.args.root.now ∷ arguments)) (omega arith) in
    IfOk-weaker c.to_vec.result _ _ (λ bytes facts. record { utf8 = facts.0; spelled = facts.1 flat ∙ ap (λ value. Some value) values })
    (IfOk-both c.to_vec.result _ _ c.to_vec.ensures.utf8 c.to_vec.ensures.reads_back)
