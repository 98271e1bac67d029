use Rattle.pass_forms.proofs.v2.+varint_up_to.Given as goal

abbrev pub decreases-varint_up_to : goal.decreases-varint_up_to
decreases-varint_up_to l = l.most
