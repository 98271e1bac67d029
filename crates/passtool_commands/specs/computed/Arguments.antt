-- Computes whether a text is a caveat of the caveat language.
use Rattle.std.specs.Prelude.{Bool, is_some}
use Rattle.clap.specs.Words.{Text}
use Rattle.pass_caveats.specs.computed.CaveatOf.{caveat_of}

abbrev pub is_understood : Text → Bool
is_understood text = is_some (caveat_of text)
