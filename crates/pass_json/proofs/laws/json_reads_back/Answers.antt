use Rattle.pass_json.proofs.laws.json_reads_back.Goals as goal
use Rattle.pass_json.proofs.WrittenLemmas.{reads_back_json}

pub returns : goal.returns
returns c = reads_back_json
