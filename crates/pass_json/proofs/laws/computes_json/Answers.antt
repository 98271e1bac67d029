use Rattle.pass_json.proofs.laws.computes_json.Goals as goal
use Rattle.pass_json.proofs.ExactLemmas.{json_again, json_takes}

pub returns : goal.returns
returns c bytes wide = (json_again c.from_base64_is_base64.ensures bytes wide, json_takes c.from_base64_is_base64.ensures bytes wide)
