use Rattle.http_request.proofs.scan.HeadScan.go_on.Goals as goal
use Rattle.http_request.proofs.{Common.{take, drop, take-append-drop}, FrameLemmas.head_result_more}

pub returns-in-Refused : goal.returns-in-Refused
returns-in-Refused c =
    let bytes = c.args.bytes.now in
    let n = c.args.searched in
    rw take-append-drop at (head_result_more (take n bytes) (drop n bytes) c.args.self.now.fields c.args.self.now.front c.in-Refused.is c.requires.before)
