use Rattle.command_line.proofs.root.Root.from_hex.Goals as goal
use Rattle.std.proofs.Common.{◌∙◌, ◌/◌, Ok, Err, Some, refl, inl, inr, sym, ap, arith, length}
use Rattle.command_line.proofs.{RowLemmas.{front_of, none_by_length, root_of_decoded}, root.Root.from_hex.Goals.then-len-eq0-via-then-len-eq0}
use Rattle.command_line.proofs.root.Root.from_hex.Goals.{then-len-eq0-via-else-len-eq0+then-len-gt-MAX_ROOT_LEN}

pub returns-then-len-eq0 : goal.returns-then-len-eq0
returns-then-len-eq0 c = sym (none_by_length c.args.text.now (elim c.then-len-eq0.branch [
  | then-len-eq0-via-then-len-eq0 w ↦ inl w.if-len-eq0.true
  | then-len-eq0-via-else-len-eq0+then-len-gt-MAX_ROOT_LEN w ↦ inr w.if-len-gt-MAX_ROOT_LEN.true
]))

pub returns-in-Ok : goal.returns-in-Ok
returns-in-Ok c =
    let len = length c.args.text.now / 2 in
    let read = root_of_decoded c.args.text.now c.decode_to_slice.new.out _ len (Ok c.in-Ok.field-0) refl (omega arith) (omega arith) (omega arith)
    c.in-Ok.ensures.value in
    ap Some (front_of len c.decode_to_slice.new.out _ read.1) ∙ sym read.0

pub returns-in-Err : goal.returns-in-Err
returns-in-Err c =
    sym (root_of_decoded c.args.text.now c.decode_to_slice.new.out _ (length c.args.text.now / 2) (Err c.in-Err.field-0) refl (omega arith) (omega arith)
    (omega arith) c.in-Err.ensures.value)
