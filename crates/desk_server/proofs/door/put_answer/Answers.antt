use Rattle.desk_server.proofs.door.put_answer.Goals as goal
use Rattle.desk_server.proofs.ServerLemmas.{sent_status, sent_text}

pub returns-in-Ok-put_all : goal.returns-in-Ok-put_all
returns-in-Ok-put_all g c =
    sent_text c.args.status c.args.text.now _ _ _ _ _ _ _ c.in-Ok.ensures.written.0 (rw c.as_bytes.ensures.value at c.in-Ok-put_all.ensures.written.0)
    c.put_all-in-Ok-put_all.ensures.written

pub returns-in-Err-put_all : goal.returns-in-Err-put_all
returns-in-Err-put_all g c =
    let prefix = rw c.as_bytes.ensures.value at c.in-Err-put_all.ensures.written in
    sent_status c.args.status c.args.text.now _ _ _ c.in-Err-put_all.field-0 prefix.0 c.in-Ok.ensures.written.0 prefix.1
