use Rattle.std.proofs.Common.{arith, ◌∙◌, ap, bit_xor, set, get_or, List, ℕ}
use Rattle.pass_mac.proofs.Masking.{map_in_place}
use Rattle.pass_mac.proofs.mac.masked_block.Goals as goal

pub loop-byte-preserved : goal.loop-byte-preserved
loop-byte-preserved c =
    let i = c.loop-byte.byte-index in
    let f = λ (byte : ℕ). bit_xor byte c.args.pad in
    ap (λ (ys : List ℕ). set ys i (f (get_or ys i 0))) c.loop-byte.invariant ∙ map_in_place f c.args.block.now i (omega arith)
