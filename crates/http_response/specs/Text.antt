-- This file defines the HTTP statuses of replies (RFC 9110, section 15) and the methods of the
-- resource that a path names. It also defines the text of a reply, which is an HTTP/1.1 response
-- (RFC 9112).
use Rattle.club_core.specs.declared.refusal.Resource.TheVariants as resources
use Rattle.std.specs.{Fmt.decimal, Prelude.{ℕ, List, codes, ◌==◌, [], ◌++◌, length, if◌then◌else◌}}
use Rattle.club_core.specs.declared.refusal.Refusal.{Refusal, TheVariants.{BadRequest, NoSuchPath, MethodNotAllowed, NoPass, PassTooLong, PassMalformed}}
use Rattle.club_core.specs.declared.refusal.Refusal.TheVariants.{ThirdPartyCaveat, TooManyCaveats, NotVerified, KeyRevoked, CaveatNotUnderstood, CaveatDenies}
use Rattle.club_core.specs.declared.refusal.Refusal.TheVariants.{NumberUsed, NoSuchFacility, NoSuchBooking, NotBookable, SlotClosed, NoPlaces, QuotaReached}
use Rattle.club_core.specs.declared.{refusal.{Refusal.TheVariants.{BalanceTooLow, SlotHasBegun, Unavailable}, Resource.Resource}, reply.Reply.Reply}
use Rattle.club_core.specs.declared.reply.Reply.TheVariants.{Refused}
use Rattle.http.specs.StatusCode.{code_digits}
use Rattle.http_response.specs.Body.{body_text}

abbrev pub refusal_status : Refusal → ℕ
refusal_status BadRequest = 400
refusal_status NoSuchPath = 404
refusal_status (MethodNotAllowed resource) = 405
refusal_status NoPass = 401
refusal_status PassTooLong = 400
refusal_status PassMalformed = 400
refusal_status ThirdPartyCaveat = 400
refusal_status TooManyCaveats = 400
refusal_status NotVerified = 401
refusal_status KeyRevoked = 403
refusal_status (CaveatNotUnderstood n) = 403
refusal_status (CaveatDenies n) = 403
refusal_status NumberUsed = 409
refusal_status NoSuchFacility = 404
refusal_status NoSuchBooking = 404
refusal_status NotBookable = 409
refusal_status SlotClosed = 409
refusal_status NoPlaces = 409
refusal_status QuotaReached = 409
refusal_status BalanceTooLow = 402
refusal_status SlotHasBegun = 409
refusal_status Unavailable = 503

abbrev pub status_of : Reply → ℕ
status_of (Refused refusal) = refusal_status refusal
status_of served = 200

-- The methods of a resource. A client can view a slot or the member's account, and can make or
-- cancel a booking.
abbrev pub methods_of : Resource → List ℕ
methods_of resources.Slot = codes "GET"
methods_of resources.Booking = codes "PUT, DELETE"
methods_of resources.Account = codes "GET"

-- The reason phrase of a status (RFC 9110, section 15).
abbrev pub phrase_of : ℕ → List ℕ
phrase_of status =
    if status == 200 then codes "OK" else (
    if status == 400 then codes "Bad Request" else (
    if status == 401 then codes "Unauthorized" else (
    if status == 402 then codes "Payment Required" else (
    if status == 403 then codes "Forbidden" else (
    if status == 404 then codes "Not Found" else (
    if status == 405 then codes "Method Not Allowed" else (
    if status == 409 then codes "Conflict" else codes "Service Unavailable")))))))

abbrev pub status_line : Reply → List ℕ
status_line reply = codes "HTTP/1.1 " ++ code_digits (status_of reply) ++ codes " " ++ phrase_of (status_of reply) ++ codes "\r\n"

-- The field with the challenge for status 401 (RFC 9110, section 11.6.1; RFC 6750, section 3). A
-- reply with any other status has no challenge.
abbrev pub challenge_field : Reply → List ℕ
challenge_field reply = if status_of reply == 401 then codes "WWW-Authenticate: Bearer\r\n" else []

-- The field `Allow` with the methods of the path's resource, for status 405 (RFC 9110, section
-- 10.2.1). A reply with any other status has no field `Allow`.
abbrev pub allow_field : Reply → List ℕ
allow_field (Refused (MethodNotAllowed resource)) = codes "Allow: " ++ methods_of resource ++ codes "\r\n"
allow_field reply = []

-- The head of a reply whose body has `body_len` bytes.
unfoldable pub head_text : Reply → ℕ → List ℕ
head_text reply body_len =
    status_line reply
    ++ codes "Content-Type: application/json\r\nContent-Length: "
    ++ decimal body_len
    ++ codes "\r\n"
    ++ challenge_field reply
    ++ allow_field reply
    ++ codes "Connection: close\r\n\r\n"

-- The text of a reply.
unfoldable pub reply_text : Reply → List ℕ
reply_text reply = head_text reply (length (body_text reply)) ++ body_text reply
