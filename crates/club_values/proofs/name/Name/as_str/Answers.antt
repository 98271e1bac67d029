use Rattle.club_values.proofs.name.Name.as_str.Goals as goal
use Rattle.std.proofs.{Common.arith, lemmas.{Bool.Decides.nat_tests, Str.Ascii.IsAscii-from_all}}

pub text_of-requires : goal.text_of-requires
text_of-requires c = grind (arith, IsAscii-from_all, nat_tests)
