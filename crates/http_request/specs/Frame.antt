-- This file defines the head of a request, a request as a head and a body (RFC 9112, section 6),
-- and when a request is complete. The file also defines the result of looking for a head at the
-- start of the given bytes.
use Rattle.std.specs.{List.ends_with, Prelude.{◌≡◌, ℕ, ◌<◌, ◌≤◌, true, false, List, [], length, take, nat_eq, codes, ◌++◌, map, Some}}
use Rattle.http_request.specs.{Length.{max_fields, max_head_len, asked_length}, declared.head_result.{Head.Head, HeadResult.{HeadResult, TheVariants.NoPiece}}}
use Rattle.http_request.specs.declared.{head_result.HeadResult.TheVariants.{Refused, Asking}, scan.HeadScan.HeadScan}
use Rattle.httparse.specs.{Grammar.{RequestHead, ReadsRequest}, Spans.{name_and_value, IsRequestWithin, IsRequestAt}, declared.spans.HeaderSpan.HeaderSpan}

-- The end of the last line of a head, and an empty line.
abbrev pub empty_line : List ℕ
empty_line = codes "\r\n\r\n"

-- The piece ends with an empty line, but no shorter prefix of the piece ends with an empty line.
-- The piece isn't longer than the limit for a head.
pub record IsPiece (piece : List ℕ) : Type 0 where
  pub ends : ends_with nat_eq piece empty_line ≡ true
  pub shortest : (n : ℕ) → n < length piece → ends_with nat_eq (take n piece) empty_line ≡ false
  pub short : length piece ≤ max_head_len

-- The piece is exactly the head of a request, as httparse parses it (RFC 9112). The head has at
-- most `max_fields` fields.
pub record IsHeadOf (piece : List ℕ) (head : RequestHead) : Type 0 where
  pub reads : ReadsRequest piece head []
  pub few : length head.fields ≤ max_fields

-- The names and the values of a head's fields.
abbrev pub header_fields : RequestHead → List (List ℕ × List ℕ)
header_fields head = map name_and_value head.fields

-- The piece is a head that announces a body of the given length.
pub record AsksForBody (piece : List ℕ) (head : RequestHead) (body_len : ℕ) : Type 0 where
  pub is : IsHeadOf piece head
  pub requests : asked_length head.method (header_fields head) ≡ Some body_len

-- The bytes begin with the given head, followed by the given body.
pub record IsFramed (bytes : List ℕ) (head : RequestHead) (body : List ℕ) : Type 0 where
  pub piece : List ℕ
  pub after : List ℕ
  pub cut : IsPiece piece
  pub parts : bytes ≡ piece ++ (body ++ after)
  pub asks : AsksForBody piece head (length body)

-- No prefix of at most `max_head_len` bytes ends with an empty line.
abbrev pub HasNoPiece : List ℕ → Type 0
HasNoPiece bytes = (n : ℕ) → n ≤ length bytes → n ≤ max_head_len → ends_with nat_eq (take n bytes) empty_line ≡ false

-- The bytes begin with a head that the desk refuses. A refused head ends with an empty line. A
-- refused head isn't valid, has too many fields, or announces a body that the desk doesn't allow.
pub record IsRefusedHead (bytes : List ℕ) : Type 0 where
  pub piece : List ℕ
  pub rest : List ℕ
  pub cut : IsPiece piece
  pub parts : bytes ≡ piece ++ rest
  pub refusal : (head : RequestHead) (body_len : ℕ) → ¬ (AsksForBody piece head body_len)

-- The bytes begin with a complete request. A request is complete if its head and its body are
-- complete. A request is also complete if the desk refuses its head, and more bytes can't change
-- the refusal.
pub data IsWhole (bytes : List ℕ) : Type 0 where
  has_frame : (head : RequestHead) (body : List ℕ) → IsFramed bytes head body → IsWhole bytes
  endless : HasNoPiece bytes → max_head_len ≤ length bytes → IsWhole bytes
  bad_head : IsRefusedHead bytes → IsWhole bytes

-- The bytes are exactly a head and its body.
pub record IsOneRequest (bytes : List ℕ) : Type 0 where
  pub piece : List ℕ
  pub body : List ℕ
  pub head : RequestHead
  pub cut : IsPiece piece
  pub parts : bytes ≡ piece ++ body
  pub asks : AsksForBody piece head (length body)

-- The bytes begin with a head. `fields` and `found.spans` are the positions of the head's parts.
pub record IsHeadAt (bytes : List ℕ) (fields : List HeaderSpan) (found : Head) : Type 0 where
  pub head : RequestHead
  pub inside : found.len ≤ length bytes
  pub cut : IsPiece (take found.len bytes)
  pub asks : AsksForBody (take found.len bytes) head found.body_len
  pub within : IsRequestWithin (take found.len bytes) fields found.spans
  pub spans : IsRequestAt (take found.len bytes) fields found.spans head

-- The result of looking for a head at the start of the bytes. Either no head ends within the first
-- `max_head_len` bytes, or the desk refuses the head, or the head announces a body of a known
-- length.
abbrev pub IsHeadResultOf : List ℕ → List HeaderSpan → HeadResult → Type 0
IsHeadResultOf bytes fields NoPiece = HasNoPiece bytes
IsHeadResultOf bytes fields Refused = IsRefusedHead bytes
IsHeadResultOf bytes fields (Asking found) = IsHeadAt bytes fields found

-- The scan has the result of looking for a head at the start of the bytes.
abbrev pub Covers : HeadScan → List ℕ → Type 0
Covers scan bytes = IsHeadResultOf bytes scan.fields scan.front
