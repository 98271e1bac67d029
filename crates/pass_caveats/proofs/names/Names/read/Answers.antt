use Rattle.pass_caveats.proofs.names.Names.read.Goals as goal
use Rattle.std.proofs.{Common.{◌≡◌, true, sym, arith}, lemmas.List.Splits.join_with_byte-slice_split}
use Rattle.pass_caveats.proofs.ChoiceLemmas.{some_part, names_again}
use Rattle.pass_caveats.proofs.names.Names.read.Goals.{else-are_all_names-via-then-are_all_names+else-count_of_parts-le-MAX_NAMES}
use Rattle.pass_caveats.{proofs.names.Names.read.Goals.else-are_all_names-via-else-are_all_names, specs.Choices.{AreNames, comma_parts}}

pub invariant_of-result : goal.invariant_of-result
invariant_of-result c = record { some = some_part c.args.text.now; few = omega arith; each_is_name = c.are_all_names.ensures.0 c.if-are_all_names.true }

pub returns-then-count_of_parts-le-MAX_NAMES : goal.returns-then-count_of_parts-le-MAX_NAMES
returns-then-count_of_parts-le-MAX_NAMES c = (
  record { some = some_part c.args.text.now; few = omega arith; each_is_name = c.are_all_names.ensures.0 c.if-are_all_names.true },
  sym (join_with_byte-slice_split 44 c.args.text.now),
)

pub returns-else-are_all_names : goal.returns-else-are_all_names
returns-else-are_all_names c = λ names h.
    let are : AreNames (comma_parts c.args.text.now) = grind (arith, names_again) in
    elim c.else-are_all_names.branch [
      | else-are_all_names-via-then-are_all_names+else-count_of_parts-le-MAX_NAMES w ↦ absurd (omega (arith, are.few))
      | else-are_all_names-via-else-are_all_names w ↦ let t : c.are_all_names.result ≡ true = c.are_all_names.ensures.1 are.each_is_name in cc
    ]
