use Rattle.std.proofs.Common.{◌≡◌, ◌++◌, take, drop}
use Rattle.pass_mac.specs.Hmac as spec
use Rattle.pass_mac.proofs.mac.masked_block.Given as goal

abbrev pub invariant-loop-byte : goal.invariant-loop-byte
invariant-loop-byte l = l.byte-items ≡ spec.masked_block l.pad (take l.byte-index l.block) ++ drop l.byte-index l.block
