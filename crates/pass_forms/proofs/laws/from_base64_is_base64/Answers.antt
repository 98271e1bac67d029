use Rattle.pass_forms.proofs.laws.from_base64_is_base64.Goals as goal
use Rattle.pass_forms.proofs.Base64Lemmas.{from_base64_spells, spells_from_base64}

pub returns : goal.returns
returns c text b = (from_base64_spells text b, spells_from_base64 text b)
