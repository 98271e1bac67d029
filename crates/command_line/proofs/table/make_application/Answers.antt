use Rattle.std.proofs.{Common.{List, arith, get_or, length, map, sym, take, ℕ, ◌+◌, ◌<◌, ◌∙◌, ◌≡◌}, lemmas.{Bool.Decides.nat_tests, Grind.common_steps}}
use Rattle.std.proofs.lemmas.Result.{IfOk-weaker}
use Rattle.clap.specs.Words.{App, with_subcommand}
use Rattle.command_line.specs.{Table.{entry_app, entry_of, with_entries}, declared.table.Row.Row}
use Rattle.command_line.proofs.table.make_application.Goals as goal

entry_more : {C : Type 0} (app : App) (rows : List (Row C)) (i : ℕ) (row : Row C) → i < length rows → row ≡ get_or rows i row
    → with_entries app (map entry_of (take (i + 1) rows)) ≡ with_subcommand (with_entries app (map entry_of (take i rows))) (entry_app (entry_of row)).top
entry_more {C = C} app rows i row within is = grind (arith, common_steps, nat_tests)

pub loop-row-preserved : goal.loop-row-preserved
loop-row-preserved g c = IfOk-weaker c.with_command-made.result _ _
    (λ made is. is ∙ sym (entry_more _ c.args.program.now.rows.now c.loop-row.row-index c.row-item.result (omega arith) c.row-item.is))
    (c.with_command-made.ensures.made _ _ c.loop-row.invariant c.make_command.ensures)
