use Rattle.http_response.proofs.body.slot_body.Goals as goal
use Rattle.std.proofs.Common.{codes, [], ◌∷◌}
use Rattle.club_values.specs.{Kind.kind_text, Moment.day_text}
use Rattle.http_response.{proofs.BodyLemmas.written_object, specs.Body.{text, number, truth}}

pub returns : goal.returns
returns c = simp (
  c.push.ensures.bytes,
  c.push_truth.ensures.text,
  c.push_number-4.ensures.text,
  c.push_number-3.ensures.text,
  c.push_number-2.ensures.text,
  c.push_text-2.ensures.text,
  c.push_number.ensures.text,
  c.push_text.ensures.text,
  c.object_of_text-line.ensures.text,
  c.as_bytes.ensures.value,
  c.text.ensures.value,
  c.from.ensures,
  c.number.ensures.value,
  c.as_bytes-2.ensures.value,
  c.text-2.ensures,
  c.from-2.ensures,
  c.from-3.ensures,
) (written_object
    (codes "facility", text c.args.slot.now.facility)
    ((codes "day", text (day_text c.args.slot.now.day)) ∷ (codes "hour", number c.args.slot.now.hour)
    ∷ (codes "kind", text (kind_text c.args.kind)) ∷ (codes "price", number c.args.price) ∷ (codes "places", number c.args.places)
    ∷ (codes "taken", number c.args.taken) ∷ (codes "closed", truth c.args.closed) ∷ []))
