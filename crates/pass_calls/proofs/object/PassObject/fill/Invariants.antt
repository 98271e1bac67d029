-- The object represents the pass with the caveats that the loop has copied so far, and has room for
-- them.
use Rattle.std.proofs.Common.{◌≡◌, ◌≤◌, take}
use Rattle.pass_calls.specs.{Code.number_of_form, Object.{fields_len, held, room, taken}}
use Rattle.pass_forms.specs.Reading.{max_caveats}
use Rattle.pass_calls.proofs.object.PassObject.fill.Given as goal

abbrev pub invariant-loop-caveat : goal.invariant-loop-caveat
invariant-loop-caveat l =
    (held l.self ≡ record l.pass { caveats = take l.caveat-index l.pass.caveats }) × (l.self.form ≡ number_of_form l.fn.form)
    × (taken l.self ≡ fields_len (record l.pass { caveats = take l.caveat-index l.pass.caveats })) × (taken l.self ≤ room)
    × (l.caveat-index ≤ max_caveats)
