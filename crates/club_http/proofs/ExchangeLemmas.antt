-- Lemmas about a request that arrives in several pieces, and about bytes after a complete request,
-- which don't change the reply.
use Rattle.std.proofs.Common.{◌≡◌, ◌⊎◌, ℕ, ◌+◌, ◌≤◌, ◌↔◌, Bool, false, inr, List, ◌++◌, length, take, sym, ap, ◌∙◌, arith, Some, None, inl, Option, Result, Ok}
use Rattle.std.proofs.{Common.{Err, append-nil, IfSome}, Math.Seq.take-append-add, lemmas.List.{take-append-le, length-take, length-take-le}}
use Rattle.std.specs.Prelude.{IsTrue}
use Rattle.club_core.specs.declared.reply.Reply.{Reply}
use Rattle.club_http.specs.{Calls.{Call, Gives, ReadsNoFurther}, Exchange.{Exchanges, Replies, Receives, AnswerRelation, IsReplied, parser_refusal, desk_reply}}
use Rattle.club_http.specs.{Exchange.out_of_memory, declared.fault.AnswerFault.{AnswerFault, TheVariants.{Read, Write}}}
use Rattle.http_request.specs.{Frame.IsWhole, Laws.{WholeKeepsItsReading, BodyStays}}
use borrow.Rule.Slice.PartMut.{put_mid}

pub within_request : (room : List ℕ) (n : ℕ) → n ≤ 16640 → length (take n room) ≤ 16640
within_request room n few = rw (length-take n room) (omega arith)

pub filled : (room part : List ℕ) (len n k : ℕ) → len ≤ length room → n ≤ length part → take (len + n) (put_mid len k room part) ≡ take len room ++ take n part
filled room part len n k within few =
    let front = length-take-le len room within in
    ap (λ (m : ℕ). take (m + n) (put_mid len k room part)) (sym front)
    ∙ take-append-add (take len room) _ n
    ∙ ap (λ (l : List ℕ). take len room ++ l) (take-append-le n part _ few)

pub not_so : (test : Bool) (P : Type 0) → test ≡ false → IsTrue test ↔ P → ¬ P
not_so test P fails is holds = let passes : IsTrue test = is.1 holds in cc

-- The reader stops after a call that returned no bytes.
pub stops : {Reader : Type 0} {Fills : Call Reader} {old mid new : Reader} {bytes room : List ℕ} → length bytes ≤ 16640 → Gives Fills old bytes mid
    → ¬ (IsWhole bytes) → Fills mid (Some 0) room new ⊎ Fills mid None room new → ReadsNoFurther Fills old bytes new
stops {mid} {room} within gave not_whole none =
    record { within = within; calls = inr (record { mid = mid; room = room; gave = gave; not_whole = not_whole; none = none }) }

replied_more : {Desk : Type 0} {Answers : AnswerRelation Desk} {bytes : List ℕ} {old : Desk} {reply : Reply} {new : Desk} (more : List ℕ)
    → WholeKeepsItsReading → BodyStays → IsWhole bytes → IsReplied Answers bytes old reply new → IsReplied Answers (bytes ++ more) old reply new
replied_more more keeps stays whole (parser_refusal refusal reading is same) = parser_refusal refusal (keeps _ more (Err refusal) whole reading) is same
replied_more more keeps stays whole (desk_reply decoded reading is) = desk_reply decoded (keeps _ more (Ok decoded) whole reading) is
replied_more more keeps stays whole (out_of_memory held is same) = out_of_memory (stays _ more held) is same

pub replied_to_all : {Desk : Type 0} (Answers : AnswerRelation Desk) (before after : Option (List ℕ)) (bytes : List ℕ) (old : Desk)
    (reply : Reply) (new : Desk)
    → WholeKeepsItsReading → BodyStays → Receives before after bytes
    → IsReplied Answers bytes old reply new → IfSome before (λ all. IsReplied Answers all old reply new)
replied_to_all Answers None after bytes old reply new keeps stays received replied = tt
replied_to_all Answers (Some all) None bytes old reply new keeps stays received replied = absurd received.came
replied_to_all Answers (Some all) (Some rest) bytes old reply new keeps stays received replied = elim received.ends [
  | inl whole ↦ rw received.came (replied_more rest keeps stays whole replied)
  | inr none ↦ rw (received.came, none, append-nil) replied
]

module _ {Desk : Type 0} (Answers : AnswerRelation Desk) (before after : Option (List ℕ)) (bytes : List ℕ) (old new : Desk) (keeps : WholeKeepsItsReading)
    (stays : BodyStays) (received : Receives before after bytes) where
  replies : (reply : Reply) → IsReplied Answers bytes old reply new → Replies Answers before after bytes old reply new
  replies reply replied =
      let to_all = replied_to_all Answers before after bytes old reply new keeps stays received replied in
      record { receives = received; reply_is = replied; to_all = to_all }

  pub exchanged_to_all : (Unasked : Type 0) (Writes : List ℕ → Type 0) (outcome : Result Reply AnswerFault)
      → Exchanges (record { decides = λ reply. IsReplied Answers bytes old reply new; unasked = ⊥; writes = Writes }) outcome
      → Exchanges (record { decides = λ reply. Replies Answers before after bytes old reply new; unasked = Unasked; writes = Writes }) outcome
  exchanged_to_all Unasked Writes (Ok reply) (replied, written) = (replies reply replied, written)
  exchanged_to_all Unasked Writes (Err Read) never = absurd never
  exchanged_to_all Unasked Writes (Err (Write n)) (reply, replied, fewer, written) = (reply, replies reply replied, fewer, written)
