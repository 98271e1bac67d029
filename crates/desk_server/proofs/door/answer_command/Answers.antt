use Rattle.std.proofs.Common.{refl}
use Rattle.desk_server.proofs.door.answer_command.Goals as goal

pub returns : goal.returns
returns g c = record {
  answer = c.command-carried.result;
  carries = c.command-carried.ensures;
  same = refl;
  writes = rw c.as_str.ensures.value at c.put_answer.ensures;
}
