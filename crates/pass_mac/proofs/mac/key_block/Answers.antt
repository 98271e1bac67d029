use Rattle.std.proofs.{Common.{◌≡◌, length, false, ltb, arith, refl}, lemmas.{Bool.le-ltb, List.drop-replicate}}
use Rattle.pass_mac.specs.Hmac.{key_block}
use Rattle.pass_mac.proofs.mac.key_block.Goals as goal

pub returns-else-key-gt-BLOCK_LEN : goal.returns-else-key-gt-BLOCK_LEN
unfolding key_block
returns-else-key-gt-BLOCK_LEN c =
    let short : ltb 64 (length c.args.key.now) ≡ false = le-ltb _ _ (omega arith) in
    rw (short, c.copy_from_slice-else-key-gt-BLOCK_LEN.ensures.after, drop-replicate) refl
