use Rattle.passtool_commands.proofs.mint.Mint.answer.Goals as goal
use Rattle.std.proofs.Common.{◌≡◌, ◌∙◌, ap₂, map, sym}
use Rattle.passtool_commands.{proofs.CommandLemmas.goes_on, specs.Answer.{IsOnly, WritesPass, narrowing, new_pass}}

pub returns : goal.returns
returns c =
    let minting = c.args.self.now in
    let caveats : map (λ text. text.now) c.as_slice.result.now ≡ minting.caveats = cc in
    let form : c.self.inside.form ≡ minting.form = cc in
    let made = ap₂ narrowing (sym caveats) (sym c.in_ok-pass.ensures) ∙ c.in_ok-pass-2.ensures in
    goes_on (IsOnly (narrowing minting.caveats (new_pass minting))) (WritesPass minting.form) _ c.written.result made (rw form at c.written.ensures)
