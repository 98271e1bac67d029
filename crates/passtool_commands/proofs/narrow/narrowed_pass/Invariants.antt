-- Adding the remaining caveats to the current pass has the same result as adding all caveats to the
-- original pass.
use Rattle.passtool_commands.proofs.narrow.narrowed_pass.Given as goal
use Rattle.std.proofs.Common.{◌≡◌, ◌≤◌, ◌+◌, length, drop}
use Rattle.pass_forms.specs.Reading.{max_caveats}
use Rattle.passtool_commands.{proofs.CommandLemmas.texts, specs.Answer.with_caveats}

abbrev pub invariant-loop-caveat : goal.invariant-loop-caveat
invariant-loop-caveat l = record {
  left : with_caveats (texts (drop l.caveat-index l.caveats)) l.pass ≡ with_caveats (texts l.caveats) l.initial.pass;
  counted : length l.pass.caveats ≡ length l.initial.pass.caveats + l.caveat-index;
  few : length l.pass.caveats ≤ max_caveats;
}
