-- This file defines the limits of a request, and the length of a request's body (RFC 9112, section
-- 6.2).
use Rattle.std.specs.{Prelude.{ℕ, ◌+◌, ◌==◌, ◌||◌, List, [], ◌∷◌, length, nat_le, codes, if◌then◌else◌, Option, Some, None, option_and_then}, Str.bytes_eq}
use Rattle.club_values.specs.Number.{number_of_digits}
use Rattle.http_request.specs.Fields.{values_of}

-- The maximum number of bytes in a head.
abbrev pub max_head_len : ℕ
max_head_len = 16_384

-- The maximum number of fields in a head.
abbrev pub max_fields : ℕ
max_fields = 32

-- The maximum number of bytes in a body.
abbrev pub max_body_len : ℕ
max_body_len = 256

-- The maximum number of bytes in a request.
abbrev pub max_request_len : ℕ
max_request_len = max_head_len + max_body_len

-- The given length of a body, or `None` if the length is over the limit for a body.
abbrev pub body_length : ℕ → Option ℕ
body_length n = if nat_le n max_body_len then Some n else None

-- The number that 1 to 4 digits represent. The result is `None` for any other text, and for a
-- number over the limit for a body.
abbrev pub length_in : List ℕ → Option ℕ
length_in value = if nat_le (length value) 4 then option_and_then body_length (number_of_digits value) else None

-- The length of the body that the field `Content-Length` declares. Without this field, the length
-- is 0. The desk refuses a head with two or more fields `Content-Length`.
abbrev pub declared_length : List (List ℕ) → Option ℕ
declared_length [] = Some 0
declared_length (value ∷ []) = length_in value
declared_length (value ∷ other ∷ more) = None

-- The given length of a body, or `None` if the method doesn't allow a body of this length. Only the
-- method PUT allows a body that isn't empty.
abbrev pub where_allowed : List ℕ → Option ℕ → Option ℕ
where_allowed method None = None
where_allowed method (Some n) = if n == 0 || bytes_eq method (codes "PUT") then Some n else None

-- The given length of a body, or `None` if the head has a transfer coding. The desk refuses such a
-- head.
abbrev pub unless_coded : List (List ℕ) → Option ℕ → Option ℕ
unless_coded [] found_len = found_len
unless_coded (coding ∷ more) found_len = None

-- The length of the body that a head announces. The length is `None` if the desk refuses the head.
abbrev pub asked_length : List ℕ → List (List ℕ × List ℕ) → Option ℕ
asked_length method fields =
    unless_coded (values_of (codes "transfer-encoding") fields)
    (where_allowed method (declared_length (values_of (codes "content-length") fields)))
