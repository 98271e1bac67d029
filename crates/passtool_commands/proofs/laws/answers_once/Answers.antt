use Rattle.passtool_commands.proofs.CommandLemmas as laws
use Rattle.passtool_commands.proofs.laws.answers_once.Goals as goal

pub returns : goal.returns
returns c = laws.answers_once c.one_reading_for_each_text.ensures c.one_writing_for_each_form.ensures
