use Rattle.http_response.proofs.reply.reply_bytes.Goals as goal
use Rattle.http_response.{proofs.BodyLemmas.put_behind, specs.Text.reply_text}

pub returns-clause-room : goal.returns-clause-room
unfolding reply_text
returns-clause-room c =
    let both = put_behind c.as_bytes-head.result.now c.as_bytes-body.result.now c.args.room.now in
    cc
