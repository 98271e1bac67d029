-- This file defines the limits and the bodies of replies. A body is a JSON object (RFC 8259) whose
-- members have a fixed order.
use Rattle.std.specs.{Fmt.decimal, List.join_by, Prelude.{ℕ, Bool, true, false, List, [], ◌∷◌, ◌++◌, codes, Option, Some, None}}
use Rattle.club_core.specs.{Refusal.{details_of, caveat_of_refusal}, declared.reply.Reply.{Reply, TheVariants.{SlotShown, Booked, Cancelled, AccountShown}}}
use Rattle.club_core.specs.declared.reply.Reply.TheVariants.{Refused}
use Rattle.club_values.specs.{Kind.kind_text, Moment.day_text}

-- The maximum number of bytes in a `Line`.
abbrev pub max_line_len : ℕ
max_line_len = 256

-- The value of a member: a text that needs no escapes, a number, or a truth value.
pub data Value : Type 0 where
  text : List ℕ → Value
  number : ℕ → Value
  truth : Bool → Value

abbrev pub truth_text : Bool → List ℕ
truth_text true = codes "true"
truth_text false = codes "false"

abbrev pub value_text : Value → List ℕ
value_text (text bytes) = codes "\"" ++ bytes ++ codes "\""
value_text (number n) = decimal n
value_text (truth b) = truth_text b

-- A member of an object: a name and a value.
abbrev pub Member : Type 0
Member = List ℕ × Value

abbrev pub name_text : List ℕ → List ℕ
name_text name = codes "\"" ++ name ++ codes "\":"

unfoldable pub member_text : Member → List ℕ
member_text member = name_text member.0 ++ value_text member.1

-- The text of an object with the given members.
abbrev pub object_text : List Member → List ℕ
object_text members = codes "{" ++ join_by member_text (codes ",") members ++ codes "}"

-- The member with a booking's key and number.
abbrev pub booking_member : List ℕ → ℕ → Member
booking_member key n = (codes "booking", text (key ++ codes "/" ++ decimal n))

-- A list with one member: the number of the caveat that refused the request. If no caveat refused
-- the request, the list is empty.
abbrev pub caveat_member : Option ℕ → List Member
caveat_member None = []
caveat_member (Some n) = (codes "caveat", number n) ∷ []

-- The members in the body of a reply.
abbrev pub members_of : Reply → List Member
members_of (SlotShown slot kind price places taken closed) =
    (codes "facility", text slot.facility) ∷ (codes "day", text (day_text slot.day)) ∷ (codes "hour", number slot.hour)
    ∷ (codes "kind", text (kind_text kind)) ∷ (codes "price", number price) ∷ (codes "places", number places)
    ∷ (codes "taken", number taken) ∷ (codes "closed", truth closed) ∷ []
members_of (Booked key n charge left) =
    booking_member key n ∷ (codes "charge", number charge) ∷ (codes "left", number left) ∷ []
members_of (Cancelled key n refund) = booking_member key n ∷ (codes "refund", number refund) ∷ []
members_of (AccountShown member balance quota open_count spent) =
    (codes "member", text member) ∷ (codes "balance", number balance) ∷ (codes "quota", number quota)
    ∷ (codes "open", number open_count) ∷ (codes "spent", number spent) ∷ []
members_of (Refused refusal) =
    (codes "fault", number (details_of refusal).number) ∷ (codes "text", text (details_of refusal).text)
    ∷ caveat_member (caveat_of_refusal refusal)

-- The body of a reply.
abbrev pub body_text : Reply → List ℕ
body_text reply = object_text (members_of reply)
