-- This file defines the decoding of a request.
use Rattle.std.specs.{Option.ok_or, Prelude.{◌≡◌, ◌⊎◌, ℕ, ◌<◌, List, length, if◌then◌else◌, codes, Option, Some, Result, Ok, Err}, Str.bytes_eq}
use Rattle.httparse.specs.Grammar.{RequestHead}
use Rattle.club_core.specs.declared.refusal.Refusal.{Refusal, TheVariants.{BadRequest, NoSuchPath, MethodNotAllowed, NoPass, Unavailable}}
use Rattle.club_core.specs.declared.{request.Request.Request, sent_words.SentWords.SentWords as Words}
use Rattle.club_core.specs.declared.refusal.Resource.TheVariants as resources
use Rattle.club_core.specs.declared.request.Request.TheVariants as requests
use Rattle.http_request.specs.{Body.guests_in, Frame.{header_fields, IsFramed}, Pass.pass_text_of, Path.IsPlaceOf, declared.path.Place.Place}
use Rattle.http_request.specs.declared.path.Place.TheVariants.{SlotPlace, BookingPlace, AccountPlace}

infixl 10 ◌>>=◌
abbrev pub ◌>>=◌ : {A B : Type 0} → Result A Refusal → (A → Result B Refusal) → Result B Refusal
Ok a >>= f = f a
Err e >>= f = Err e

-- A decoded request: the text of its pass, and the request itself.
pub record DecodedRequest : Type 0 where
  pub pass : List ℕ
  pub request : Request

-- The number of guests of a request. For PUT the number of guests is in the body. For any other
-- method the number of guests is 0.
abbrev pub guests_by_method : List ℕ → List ℕ → Option ℕ
guests_by_method method body = if bytes_eq method (codes "PUT") then guests_in body else Some 0

-- The request that has the given method and place. The case of a method's letters matters.
abbrev pub request_at : Place → List ℕ → ℕ → Result Request Refusal
request_at (SlotPlace slot) method guests =
    if bytes_eq method (codes "GET") then Ok (requests.View slot) else Err (MethodNotAllowed resources.Slot)
request_at (BookingPlace slot number) method guests =
    if bytes_eq method (codes "PUT") then Ok (requests.Book slot number guests)
    else (if bytes_eq method (codes "DELETE") then Ok (requests.Cancel slot number) else Err (MethodNotAllowed resources.Booking))
request_at AccountPlace method guests =
    if bytes_eq method (codes "GET") then Ok requests.Account else Err (MethodNotAllowed resources.Account)

-- The request decoded from its method, its place, its fields and its body. If the desk refuses the
-- request, the result is the first refusal that applies.
unfoldable pub decoded_request : List ℕ → Option Place → List (List ℕ × List ℕ) → List ℕ → Result DecodedRequest Refusal
decoded_request method place fields body = do
  guests ← ok_or (guests_by_method method body) BadRequest
  place' ← ok_or place NoSuchPath
  request ← request_at place' method guests
  pass ← ok_or (pass_text_of fields) NoPass
  Ok (record { pass = pass; request = request })

-- The decoding of the bytes. If the bytes begin with a head and a body, the answer is the decoding
-- of that head and body. If the bytes don't begin with a head and a body, the answer is
-- `BadRequest`.
pub data IsRequestReading (bytes : List ℕ) (answer : Result DecodedRequest Refusal) : Type 0 where
  has_frame : (head : RequestHead) (body : List ℕ) (place : Option Place) → IsFramed bytes head body → IsPlaceOf head.target place
      → answer ≡ decoded_request head.method place (header_fields head) body → IsRequestReading bytes answer
  lacks_frame : ((head : RequestHead) (body : List ℕ) → ¬ (IsFramed bytes head body)) → answer ≡ Err BadRequest → IsRequestReading bytes answer

-- Decoding needs memory only for the body of a PUT, and only if this body isn't empty.
abbrev pub NeedsMemory : List ℕ → List ℕ → Type 0
NeedsMemory method body = (method ≡ codes "PUT") × (0 < length body)

abbrev pub HoldsBody : List ℕ → Type 0
HoldsBody bytes = (head : RequestHead) × (body : List ℕ) × IsFramed bytes head body × NeedsMemory head.method body

-- The answer satisfies the relation `Answers`, or the answer is `Unavailable` and the decoding
-- needs memory.
abbrev pub OrUnavailable : Type 0 → (Result DecodedRequest Refusal → Type 0) → Result Words Refusal → Type 0
OrUnavailable Needs Answers (Ok words) = Answers (Ok (record { pass = words.pass.now; request = words.request }))
OrUnavailable Needs Answers (Err refusal) = ((refusal ≡ Unavailable) × Needs) ⊎ Answers (Err refusal)
