use Rattle.passtool_commands.proofs.CommandLemmas as laws
use Rattle.passtool_commands.proofs.laws.verify_decides_signed.Goals as goal

pub returns : goal.returns
returns c = laws.verify_decides_signed c.one_reading_for_each_text.ensures
