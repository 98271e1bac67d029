-- The desk's reply to a decoded request, the calls that read a request, and the calls that write a
-- reply.
use Rattle.std.specs.Prelude.{◌≡◌, ℕ, List, Err, ◌⊎◌, ◌<◌, ◌≤◌, [], ◌++◌, length, take, Option, Some, None}
use Rattle.club_core.specs.{Request.Words, Run.IsRequest, Store.StoreGhosts, declared.{reply.Reply.Reply, request.Request.Request}}
use Rattle.club_gate.specs.{DecodedPass.AreWordsOf, Desk.{DecidesOrFails, FailsForCause, OfItsClub}, Served.{IsLawful, RefusesByFormFault}}
use Rattle.http_request.specs.{Frame.IsWhole, Length.max_request_len}
use Rattle.pass_forms.specs.declared.fault.FormFault.{FormFault}
use Rattle.pass_json.specs.AnyForm.{IsAnyReading}

-- If the store's disk is clean after the reply, the desk's reply and the store's new state obey the
-- rules of the club. A disk is clean if every read returns the bytes that were written, and no
-- other program writes to the disk.
pub record AnswersBy {S : Type 0} (ghosts : StoreGhosts S) (moment : ℕ) (text : List ℕ) (request : Request) (old : S) (reply : Reply) (new : S) : Type 0 where
  pub within : IsRequest request
  pub was_clean : ghosts.is_clean new → ghosts.is_clean old
  pub steps : ghosts.is_clean new → (words : Words) × AreWordsOf text request words × DecidesOrFails ghosts old new words moment reply
  pub lawful : OfItsClub ghosts old new (λ club. IsLawful club text request moment reply)
  -- The reply is `Unavailable` only if the store failed, or if the text of the pass is JSON.
  pub failed : OfItsClub ghosts old new (λ club. FailsForCause ghosts old new club text request moment reply)
  -- If the text isn't a pass, the desk refuses the text and doesn't change the store. The refusal
  -- needs memory only if the text is JSON.
  pub no_change : (fault : FormFault) → IsAnyReading text (Err fault) → new ≡ old
  pub in_place : RefusesByFormFault text reply

-- A `Call` describes one call by four terms: the state before the call, the returned number of
-- bytes, a list of bytes, and the state after the call. For a reader, the list is the buffer after
-- the call. For a writer, the list is the bytes to write.
abbrev pub Call : Type 0 → Type 1
Call End = End → Option ℕ → List ℕ → End → Type 0

-- The reader returned the bytes in consecutive calls. Each call returned at least one byte. The
-- reader wasn't called again after the request was complete.
pub data Gives {Reader : Type 0} (Fills : Call Reader) (old : Reader) : List ℕ → Reader → Type 0 where
  nothing : Gives Fills old [] old
  more : (bytes room : List ℕ) (n : ℕ) (mid new : Reader)
      → Gives Fills old bytes mid → ¬ (IsWhole bytes) → 0 < n → Fills mid (Some n) room new
      → Gives Fills old (bytes ++ take n room) new

-- The reader returned the bytes, and then one more call returned no bytes. The last call failed or
-- reached the end of the input.
pub record EndsWithNone {Reader : Type 0} (Fills : Call Reader) (old : Reader) (bytes : List ℕ) (new : Reader) : Type 0 where
  pub mid : Reader
  pub room : List ℕ
  pub gave : Gives Fills old bytes mid
  pub not_whole : ¬ (IsWhole bytes)
  pub none : Fills mid (Some 0) room new ⊎ Fills mid None room new

-- The reader returned at most `max_request_len` bytes. The reader wasn't called again after the
-- request was complete. The reader wasn't called again after a call that returned no bytes.
pub record ReadsNoFurther {Reader : Type 0} (Fills : Call Reader) (old : Reader) (bytes : List ℕ) (new : Reader) : Type 0 where
  pub within : length bytes ≤ max_request_len
  pub calls : Gives Fills old bytes new ⊎ EndsWithNone Fills old bytes new

-- Zero or more consecutive calls to the writer, and nothing else, changed the writer `old` to the
-- new writer. Some of these calls may have failed.
pub data ArePut {Writer : Type 0} (Puts : Call Writer) (old : Writer) : Writer → Type 0 where
  not_put : ArePut Puts old old
  put_again : (result : Option ℕ) (bytes : List ℕ) (mid new : Writer) → ArePut Puts old mid → Puts mid result bytes new → ArePut Puts old new
