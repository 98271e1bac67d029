-- The list `objects` contains the JSON objects of the caveats before the current index. Each of
-- these caveats is a list of bytes.
use Rattle.pass_json.proofs.write.caveat_objects.Given as goal
use Rattle.std.{proofs.Common.{◌≡◌, map, take}, specs.List.AllByRecursion}
use Rattle.base64.specs.GeneralPurpose.{IsBytes}
use Rattle.pass_json.specs.JsonWriting.{caveat_object}
use Rattle.serde_json.specs.View.{view}

abbrev pub invariant-loop-caveat : goal.invariant-loop-caveat
invariant-loop-caveat l = record {
  objects : map view l.objects.items ≡ map caveat_object (map (λ caveat. caveat.items) (take l.caveat-index l.caveats));
  bytes : AllByRecursion IsBytes (map (λ caveat. caveat.items) (take l.caveat-index l.caveats));
}
