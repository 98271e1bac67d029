use Rattle.http_response.proofs.body.account_body.Goals as goal
use Rattle.std.proofs.Common.{codes, [], ◌∷◌}
use Rattle.http_response.{proofs.BodyLemmas.written_object, specs.Body.{text, number}}

pub returns : goal.returns
returns c = simp (
  c.push.ensures.bytes,
  c.push_number-4.ensures.text,
  c.push_number-3.ensures.text,
  c.push_number-2.ensures.text,
  c.push_number.ensures.text,
  c.object_of_text-line.ensures.text,
  c.as_bytes.ensures.value,
  c.from.ensures,
  c.from-2.ensures,
) (written_object
    (codes "member", text c.args.member.now)
    ((codes "balance", number c.args.balance) ∷ (codes "quota", number c.args.quota) ∷ (codes "open", number c.args.open_count)
    ∷ (codes "spent", number c.args.spent) ∷ []))
