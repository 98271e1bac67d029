use Rattle.pass_calls.proofs.object.PassObject.first_fault.Goals as goal
use Rattle.std.proofs.Common.{arith, ℕ, List, map, [], ◌∷◌}
use Rattle.pass_caveats.specs.{Fault.AreUnderstoodAs, Laws.ReadsWhatIsUnderstood, computed.CaveatOf.caveat_of}

understood_as : ReadsWhatIsUnderstood → (texts : List (List ℕ)) → AreUnderstoodAs texts (map caveat_of texts)
understood_as law [] = tt
understood_as law (text ∷ texts) = (grind arith, understood_as law texts)

pub returns : goal.returns
returns c = grind (arith, understood_as)
