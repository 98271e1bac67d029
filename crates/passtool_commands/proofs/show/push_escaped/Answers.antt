use Rattle.passtool_commands.proofs.show.push_escaped.Goals as goal
use Rattle.std.proofs.Common.{refl, arith}
use Rattle.passtool_commands.proofs.CommandLemmas.{byte_written, none_left}

pub loop-byte-init : goal.loop-byte-init
loop-byte-init c = refl

pub loop-byte-preserved : goal.loop-byte-preserved
loop-byte-preserved c = byte_written c.args.bytes.now c.loop-byte.byte-index _ _ _ _ (omega arith) c.in_ok-push_byte.ensures c.loop-byte.invariant

pub returns : goal.returns
returns c = none_left c.args.bytes.now c.loop-byte.byte-index _ _ (omega arith) c.loop-byte.invariant
