-- Laws about sound clubs, and about the changes that events make to them.
use Rattle.std.specs.Prelude.{◌≡◌, ◌≢◌, ◌+◌, ◌≤◌, true, false, List, [], ◌∷◌, ◌++◌, map, sum_by, All, Contains, Some, Ok}
use Rattle.club_core.specs.{After.after, Answer.verdict_in, Club.{Club, empty_club, IsSound, bookings_of, is_closed, member_named, facility_named, key_named}}
use Rattle.club_core.specs.{Club.{booking_under, cost_of, taken_in}, Office.{are_limits, office_verdict}, Run.{IsEvent, Event, Asked, Commanded, step}}
use Rattle.club_core.specs.{Run.club_after, Store.FitsClub, declared.change.Change.{Change, TheVariants.{InsertMember, AddCredit, InsertFacility, InsertKey}}}
use Rattle.club_core.specs.declared.change.Change.TheVariants.{MarkRevoked, ReplaceRoot, MarkClosed, MarkOpen, ReplaceQuota, TakeCredit, ReplaceNumbers}
use Rattle.club_core.specs.declared.change.Change.TheVariants.{InsertBooking, MarkCancelled}
use Rattle.club_rows.specs.{Rows.{credited_limit, quota_limit, IsRoot, IsMember, IsFacility, IsKey, IsSlot, IsBooking}, declared.booking.Booking.Booking}
use Rattle.club_rows.specs.declared.{facility.Facility.Facility, key.Key.Key, member.Member.Member}
use Rattle.club_values.specs.{Moment.IsMoment, declared.slot.Slot.Slot}

-- The empty club is sound.
abbrev pub EmptyIsSound : Type 0
EmptyIsSound = IsSound empty_club

-- A step from a sound club leads to a sound club if the event's values are within their limits.
abbrev pub StepsKeepSound : Type 0
StepsKeepSound = (club : Club) (event : Event) → IsSound club → IsEvent event → IsSound (step club event).club

-- An event makes this change to a club.
abbrev pub IsChangeBy : Club → Event → Change → Type 0
IsChangeBy club (Asked words moment) change = (verdict_in club words moment).change ≡ Some change
IsChangeBy club (Commanded command) change = office_verdict club command ≡ Ok (Some change)

-- Suppose that an event changes a sound club, and that the event's values are within their limits.
-- Then the change matches the club's rows, and the changed club is sound.
abbrev pub ChangesFit : Type 0
ChangesFit = (club : Club) (event : Event) (change : Change) → IsSound club → IsEvent event → IsChangeBy club event change → FitsClub change club

-- A run from a sound club ends in a sound club if the values of all events are within their limits.
abbrev pub RunsKeepSound : Type 0
RunsKeepSound = (club : Club) (events : List Event) → IsSound club → All IsEvent events → IsSound (club_after club events)

-- A booking suits a club under these conditions:
--
-- - The values of the booking are within their limits.
-- - The booking's key has no other booking with the same number.
-- - The booking's key belongs to a member who can pay for the booking.
-- - The booking's slot has room for all persons of the booking.
pub record SuitsBooking (booking : Booking) (club : Club) : Type 0 where
  pub row : IsBooking booking
  pub free : All (λ (other : Booking). ¬ ((other.key ≡ booking.key) × (other.number ≡ booking.number))) club.bookings
  pub key : Key
  pub known : key_named booking.key club ≡ Some key
  pub payer : Member
  pub owned : member_named key.member club ≡ Some payer
  pub paid : sum_by cost_of (bookings_of payer.name club) + cost_of booking ≤ payer.credited
  pub facility : Facility
  pub located : facility_named booking.slot.facility club ≡ Some facility
  pub placed : taken_in booking.slot (club.bookings ++ booking ∷ []) ≤ facility.places

-- A change suits a club under these conditions:
--
-- - The values of the change are within their limits.
-- - A new row has an unused name, and every name that the row refers to exists.
-- - A credit doesn't raise the member's credited points above the maximum.
-- - A debit leaves the member enough points to pay for the member's bookings.
-- - A facility's new number of places is at least the number of persons in each of its slots.
-- - A slot to close isn't closed yet.
-- - A new booking suits the club.
-- - A booking to cancel is on record, and its refund is at most its charge.
abbrev pub Suits : Change → Club → Type 0
Suits (InsertMember member) club = IsMember member × All (λ (other : Member). other.name ≢ member.name) club.members
Suits (AddCredit name points) club = (member : Member) × (member_named name club ≡ Some member) × (member.credited + points ≤ credited_limit)
Suits (TakeCredit name points) club =
    (member : Member) × (member_named name club ≡ Some member) × (sum_by cost_of (bookings_of member.name club) + points ≤ member.credited)
Suits (ReplaceQuota name quota) club = quota ≤ quota_limit
Suits (InsertFacility facility) club = IsFacility facility × All (λ (other : Facility). other.name ≢ facility.name) club.facilities
Suits (ReplaceNumbers name places price opens shuts) club =
    (are_limits places price opens shuts ≡ true) × ((slot : Slot) → slot.facility ≡ name → taken_in slot club.bookings ≤ places)
Suits (InsertKey key) club =
    IsKey key × All (λ (other : Key). other.name ≢ key.name) club.keys × Contains (map (λ (m : Member). m.name) club.members) key.member
Suits (MarkRevoked name) club = Unit {0}
Suits (ReplaceRoot name former root until) club = IsRoot root × IsMoment until
Suits (MarkClosed slot) club =
    IsSlot slot × (is_closed slot club ≡ false) × Contains (map (λ (f : Facility). f.name) club.facilities) slot.facility
Suits (MarkOpen slot) club = Unit {0}
Suits (InsertBooking booking member) club = SuitsBooking booking club
Suits (MarkCancelled booking member refund) club =
    (booking_under booking.key booking.number club.bookings ≡ Some booking) × (refund ≤ booking.charge)

-- A change that suits a sound club leads to a sound club.
abbrev pub SuitingChangesKeepSound : Type 0
SuitingChangesKeepSound = (club : Club) (change : Change) → IsSound club → Suits change club → IsSound (after change club)
