use Rattle.pass_json.proofs.laws.one_pass_for_each_json.Goals as goal
use Rattle.pass_json.proofs.ExactLemmas.{one_json}

pub returns : goal.returns
returns c = one_json c.from_base64_is_base64.ensures
