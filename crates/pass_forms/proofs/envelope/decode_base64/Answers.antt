use Rattle.pass_forms.proofs.envelope.decode_base64.Goals as goal
use Rattle.pass_forms.proofs.{Base64Lemmas.{from_base64_spells, spells_from_base64}, Common.{◌≡◌, ◌↔◌, List, ℕ, Option, None, Some, sym, ◌∙◌, arith, rules}}
use Rattle.pass_forms.{proofs.Common.common_steps, specs.{Envelope.IsBase64, computed.Reading.from_base64}}

is_decoded : (text : List ℕ) (found : Option (List ℕ)) → found ≡ from_base64 text → (bytes : List ℕ) → (found ≡ Some bytes) ↔ IsBase64 text bytes
is_decoded text found e bytes = (λ some. from_base64_spells text bytes (sym e ∙ some), λ is. e ∙ spells_from_base64 text bytes is)

pub returns-in_default-clause-spelling : goal.returns-in_default-clause-spelling
returns-in_default-clause-spelling c = is_decoded c.args.text.now None (search rules)

pub returns-clause-spelling : goal.returns-clause-spelling
returns-clause-spelling c = is_decoded c.args.text.now (Some c.truncate.new.self.items) (grind (arith, common_steps))
