-- The current text and the escaped remaining bytes make up the whole text.
use Rattle.passtool_commands.proofs.show.push_escaped.Given as goal
use Rattle.std.{proofs.Common.{◌≡◌, ◌++◌, drop}, specs.String.string_bytes}
use Rattle.passtool_commands.specs.Answer.{escaped_text}

abbrev pub invariant-loop-byte : goal.invariant-loop-byte
invariant-loop-byte l = string_bytes l.text ++ escaped_text (drop l.byte-index l.bytes) ≡ string_bytes l.initial.text ++ escaped_text l.bytes
