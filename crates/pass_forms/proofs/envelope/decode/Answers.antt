-- The proof unfolds `decoded_of`, because the code and `decoded_of` contain different proofs that
-- each engine constant is valid.
use Rattle.pass_forms.proofs.envelope.decode.Goals as goal
use Rattle.pass_forms.{proofs.{Base64Lemmas.from_base64_is, Common.{arith, decoded_of}}, specs.computed.Reading.by_decoders}

pub returns-in-Some-clause-bytes : goal.returns-in-Some-clause-bytes
unfolding decoded_of by_decoders
returns-in-Some-clause-bytes c = grind (arith, from_base64_is)

pub returns-clause-bytes : goal.returns-clause-bytes
unfolding decoded_of by_decoders
returns-clause-bytes c = grind (arith, from_base64_is)
