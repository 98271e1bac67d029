use Rattle.pass_forms.proofs.envelope.decode_by.Goals as goal
use Rattle.pass_forms.proofs.Common.{arith, decoded_of}

pub returns-clause-bytes : goal.returns-clause-bytes
unfolding decoded_of
returns-clause-bytes c = grind arith

pub returns-clause-len : goal.returns-clause-len
returns-clause-len c = grind arith
