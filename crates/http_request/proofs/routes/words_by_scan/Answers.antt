use Rattle.http_request.proofs.routes.words_by_scan.Goals as goal
use Rattle.club_core.specs.declared.{refusal.Refusal.Refusal, sent_words.SentWords.SentWords as Words}
use Rattle.http_request.proofs.Common.{Head, HeaderSpan, IsFramed, IsHeadResultOf, List, RequestHead, Result, arith, inr, place_of, refl, ℕ, ◌≡◌}
use Rattle.http_request.{proofs.FrameLemmas.{asks_at, cut_frame, framed, no_piece, not_refused, whole_frame}, specs.Words.{DecodedRequest, has_frame}}
use Rattle.http_request.specs.{Words.{HoldsBody, IsRequestReading, lacks_frame, OrUnavailable}, declared.head_result.HeadResult.HeadResult}
use Rattle.http_request.specs.declared.head_result.HeadResult.TheVariants.{NoPiece, Refused, Asking}

unasked : (bytes : List ℕ) (fields : List HeaderSpan) (front : HeadResult) → IsHeadResultOf bytes fields front → ((found : Head) → ¬ (front ≡ Asking found))
    → (head : RequestHead) (body : List ℕ) → ¬ (IsFramed bytes head body)
unasked bytes fields NoPiece is not head body frame = no_piece (framed frame).cut is
unasked bytes fields Refused is not head body frame = not_refused (framed frame) is
unasked bytes fields (Asking found) is not head body frame = not found refl

follows : {Needs More : Type 0} {found : Result DecodedRequest Refusal} (P : Result DecodedRequest Refusal → Type 0) (result : Result Words Refusal)
    → (Needs → More) → P found → OrUnavailable Needs (λ answer. found ≡ answer) result → OrUnavailable More P result
follows P result needs so is = grind arith

pub returns-in_default : goal.returns-in_default
returns-in_default c = inr (lacks_frame (unasked c.args.bytes.now c.args.scan.now.fields c.args.scan.now.front c.requires c.in_default.not-Asking) refl)

pub returns-then-rest-head : goal.returns-then-rest-head
returns-then-rest-head c =
    let at = rw c.in-Asking.is at c.requires in
    let short = rw c.split_at.ensures.back at c.if-rest-head.true in
    inr (lacks_frame (cut_frame (asks_at at) short) refl)

pub returns : goal.returns
returns c =
    let at = rw c.in-Asking.is at c.requires in
    let frame = whole_frame at (rw c.split_at.ensures.back at c.if-rest-head.false) in
    let decoded = rw (
      c.of-method.ensures,
      c.of-target.ensures,
      c.split_at.ensures.front,
      c.split_at.ensures.back,
      at.spans.method,
      at.spans.path,
      at.spans.fields,
    ) at c.decode_request.ensures in
    follows {More = HoldsBody c.args.bytes.now} (IsRequestReading c.args.bytes.now) c.decode_request.result (λ needs. (at.head, _, frame, needs))
    (has_frame at.head _ (place_of at.head.target) frame ((c.reads_places.ensures at.head.target _).1 refl) refl) decoded
