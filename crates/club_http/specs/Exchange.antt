-- An exchange with a client: reading a request, asking the desk, and writing the text of the reply.
-- The effects of a call that reads or writes bytes concern the input, the output and a count of
-- failures.
use Rattle.std.specs.{Fmt.decimal, Io.KnownBytes.{Consumes, IsAtEnd, Keeps, Appends}, Prelude.{ℕ, List, ◌++◌, codes, ◌≤◌, ◌⊎◌, length, Option, ◌≡◌, Ok, Err}}
use Rattle.std.specs.Prelude.{◌==◌, ◌+◌, ◌-◌, ◌^◌, ◌<◌, ◌&&◌, min, take, nat_lt, if◌then◌else◌, Some, None, MatchOption, MatchResult, Result, IfSome}
use Rattle.club_core.specs.declared.{refusal.Refusal.{Refusal, TheVariants.Unavailable}, reply.Reply.{Reply, TheVariants.Refused}, request.Request.Request}
use Rattle.club_http.specs.declared.fault.AnswerFault.{AnswerFault, TheVariants.{Read, Write}}
use Rattle.http_request.specs.{Frame.IsWhole, Length.max_request_len, Words.{DecodedRequest, IsRequestReading, HoldsBody}}
use Rattle.http_response.specs.Text.{reply_text}

abbrev pub answer_fault_text : AnswerFault → List ℕ
answer_fault_text Read = codes "input failed"
answer_fault_text (Write sent) = codes "output failed after " ++ (decimal sent ++ codes " bytes")

-- At most `max_request_len` bytes were received. The received bytes begin with a complete request,
-- or are the whole input.
pub record Receives (old new : Option (List ℕ)) (bytes : List ℕ) : Type 0 where
  pub came : Consumes old new bytes
  pub within : length bytes ≤ max_request_len
  pub ends : IsWhole bytes ⊎ IsAtEnd new

-- The bytes that were received before the reader failed don't begin with a complete request.
pub record IsCutOff (old new : Option (List ℕ)) (bytes : List ℕ) : Type 0 where
  pub came : Consumes old new bytes
  pub within : length bytes ≤ max_request_len
  pub cut : ¬ (IsWhole bytes)

-- An `AnswerRelation` describes a reply by five terms: the text of a pass, the request, the desk
-- before the reply, the reply, and the desk after the reply.
abbrev pub AnswerRelation : Type 0 → Type 1
AnswerRelation Desk = List ℕ → Request → Desk → Reply → Desk → Type 0

-- The reply to the bytes of a request, with the state of the desk before and after the reply. The
-- reply has one of three causes:
-- - The parser refuses the bytes.
-- - The desk answers the decoded request.
-- - There is no memory to parse the body, and the reply is `Unavailable`.
pub data IsReplied {Desk : Type 0} (Answers : AnswerRelation Desk) (bytes : List ℕ) (old : Desk)
    (reply : Reply) (new : Desk) : Type 0 where
  parser_refusal : (refusal : Refusal) → IsRequestReading bytes (Err refusal)
      → reply ≡ Refused refusal → new ≡ old
      → IsReplied Answers bytes old reply new
  desk_reply : (decoded : DecodedRequest) → IsRequestReading bytes (Ok decoded)
      → Answers decoded.pass decoded.request old reply new
      → IsReplied Answers bytes old reply new
  out_of_memory : HoldsBody bytes
      → reply ≡ Refused Unavailable → new ≡ old
      → IsReplied Answers bytes old reply new

-- The count of failures after one more failure. The count is a u64 that saturates.
abbrev pub one_more : ℕ → ℕ
one_more failures = min (failures + 1) (2 ^ 64 - 1)

-- A call read the next bytes into the buffer, or failed without reading any bytes. A successful
-- call reads 0 bytes only at the end of the input or into an empty buffer.
abbrev pub Fills : Option (List ℕ) → Option (List ℕ) → Option ℕ → List ℕ → Type 0
Fills old new result room = MatchOption result
    (Keeps old new)
    (λ n. Consumes old new (take n room) × (n ≡ 0 → 0 < length room → IsAtEnd new))

-- The count of failures after a call that reads. The result `None` is a failure.
abbrev pub read_failures : {A : Type 0} → ℕ → Option A → ℕ
read_failures failures None = one_more failures
read_failures failures (Some found) = failures

-- A call wrote a prefix of the bytes, or failed without writing any bytes.
abbrev pub Takes : Option (List ℕ) → Option (List ℕ) → Option ℕ → List ℕ → Type 0
Takes old new result bytes = MatchOption result
    (Keeps old new)
    (λ n. Appends old new (take n bytes))

-- Either all of the bytes were written, or writing failed once, after the first `n` bytes.
abbrev pub TakesAll : {A : Type 0} → Option (List ℕ) → Option (List ℕ) → ℕ → ℕ → List ℕ → Result A ℕ → Type 0
TakesAll old new failures failures' bytes result = MatchResult result
    (λ _. Appends old new bytes × (failures' ≡ failures))
    (λ n. (n < length bytes) × Appends old new (take n bytes) × (failures' ≡ one_more failures))

-- The count of failures after a call that writes. The result `None` is a failure. The result 0 is a
-- failure if there were bytes to write.
abbrev pub put_failures : ℕ → Option ℕ → List ℕ → ℕ
put_failures failures None bytes = one_more failures
put_failures failures (Some n) bytes =
    if n == 0 && nat_lt 0 (length bytes) then one_more failures else failures

-- The exchange received the bytes, and `reply` is the reply to these bytes.
pub record Replies {Desk : Type 0} (Answers : AnswerRelation Desk) (before after : Option (List ℕ))
    (bytes : List ℕ) (old : Desk) (reply : Reply) (new : Desk) : Type 0 where
  pub receives : Receives before after bytes
  pub reply_is : IsReplied Answers bytes old reply new
  -- The whole input, including the bytes that the exchange didn't read, would get the same reply.
  pub to_all : IfSome before (λ all. IsReplied Answers all old reply new)

-- The parts of an exchange's effect: the desk decided on this reply, the exchange didn't ask the
-- desk, and the exchange wrote these bytes.
pub record Effects : Type 1 where
  pub decides : Reply → Type 0
  pub unasked : Type 0
  pub writes : List ℕ → Type 0

-- The effect of an exchange. If the exchange got a reply, the exchange wrote all or a prefix of the
-- reply's text. If reading failed, the exchange didn't ask the desk.
abbrev pub Exchanges : Effects → Result Reply AnswerFault → Type 0
Exchanges effects (Ok reply) = effects.decides reply × effects.writes (reply_text reply)
Exchanges effects (Err Read) = effects.unasked
Exchanges effects (Err (Write n)) =
    (reply : Reply) × effects.decides reply × (n < length (reply_text reply)) × effects.writes (take n (reply_text reply))

-- The count of the reader's failures after an exchange.
abbrev pub reader_failures : ℕ → Result Reply AnswerFault → ℕ
reader_failures failures (Err Read) = one_more failures
reader_failures failures (Err (Write n)) = failures
reader_failures failures (Ok reply) = failures

-- The count of the writer's failures after an exchange.
abbrev pub writer_failures : ℕ → Result Reply AnswerFault → ℕ
writer_failures failures (Err Read) = failures
writer_failures failures (Err (Write n)) = one_more failures
writer_failures failures (Ok reply) = failures

-- At every moment, the whole input gets the same reply as the received bytes. A moment is a minute
-- on the club's clock.
abbrev pub RepliesToAll : {Desk : Type 0} → (ℕ → AnswerRelation Desk) → Type 0
RepliesToAll {Desk} Answers = (moment : ℕ) (before after : Option (List ℕ)) (bytes : List ℕ) (old : Desk) (reply : Reply) (new : Desk)
    → Receives before after bytes → IsReplied (Answers moment) bytes old reply new → IfSome before (λ all. IsReplied (Answers moment) all old reply new)
