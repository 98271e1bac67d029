use Rattle.pass_json.proofs.write.put_field.Goals as goal
use Rattle.std.proofs.{Common.arith, lemmas.Str.{IsUtf8-from_is_utf8, is_utf8-from_IsUtf8}}
use Rattle.pass_json.specs.JsonWriting.{put_member}

pub returns-in_ok-try_from_str-in-Ok-clause-members : goal.returns-in_ok-try_from_str-in-Ok-clause-members
unfolding put_member
returns-in_ok-try_from_str-in-Ok-clause-members c = grind (arith, is_utf8-from_IsUtf8)

pub returns-in_ok-base64_of-in-Err-clause-members : goal.returns-in_ok-base64_of-in-Err-clause-members
unfolding put_member
returns-in_ok-base64_of-in-Err-clause-members c = grind (arith, IsUtf8-from_is_utf8)
