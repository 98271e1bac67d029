-- Defines how a change edits the club's rows, the limits of its values, whether it affects a
-- member's part of the club, and whether it adds a row.
use Rattle.std.specs.Prelude.{ℕ, ◌+◌, ◌-◌, ◌==◌, ◌&&◌, ◌||◌, not, Bool, List, [], ◌∷◌, ◌++◌, map, filter, Some, if◌then◌else◌, ◌≡◌, ◌≤◌, ◌<◌, ◌^◌, true, false}
use Rattle.std.specs.{Prelude.None, Str.bytes_eq}
use Rattle.club_core.specs.{Club.{Club, is_key_of, is_under}, Office.are_limits, declared.change.Change.{Change, TheVariants.{InsertMember, AddCredit}}}
use Rattle.club_core.specs.declared.change.Change.TheVariants.{TakeCredit, InsertFacility, ReplaceNumbers, InsertKey, MarkRevoked, ReplaceRoot, MarkClosed}
use Rattle.club_core.specs.declared.change.Change.TheVariants.{MarkOpen, ReplaceQuota, InsertBooking, MarkCancelled}
use Rattle.club_rows.specs.{Rows.{same_slot, IsRoot, quota_limit, IsMember, IsFacility, IsKey, IsSlot, IsBooking}, declared.booking.Booking.Booking}
use Rattle.club_rows.specs.declared.{facility.Facility.Facility, key.{Key.Key, OlderRoot.OlderRoot}, member.Member.Member}
use Rattle.club_values.specs.{Moment.IsMoment, declared.slot.Slot.Slot}

-- A member's row after a credit. Only the row of the member with this name changes.
abbrev pub credited_member : List ℕ → ℕ → Member → Member
credited_member name points member =
    record member { credited = if bytes_eq member.name name then member.credited + points else member.credited }

-- A member's row after a debit. Only the row of the member with this name changes.
abbrev pub debited_member : List ℕ → ℕ → Member → Member
debited_member name points member =
    record member { credited = if bytes_eq member.name name then member.credited - points else member.credited }

-- A member's row after a change of quota. Only the row of the member with this name changes.
abbrev pub member_with_quota : List ℕ → ℕ → Member → Member
member_with_quota name quota member = record member { quota = if bytes_eq member.name name then quota else member.quota }

-- A facility's row after a change of its places, price and opening hours. Only the row of the
-- facility with this name changes.
abbrev pub facility_with_numbers : List ℕ → ℕ → ℕ → ℕ → ℕ → Facility → Facility
facility_with_numbers name places price opens shuts facility = record facility {
  places = if bytes_eq facility.name name then places else facility.places;
  price = if bytes_eq facility.name name then price else facility.price;
  opens = if bytes_eq facility.name name then opens else facility.opens;
  shuts = if bytes_eq facility.name name then shuts else facility.shuts;
}

-- A key's row after a revocation. Only the row of the key with this name changes.
abbrev pub revoked_key : List ℕ → Key → Key
revoked_key name key = record key { revoked = key.revoked || bytes_eq key.name name }

abbrev pub good_until : ℕ → List ℕ → OlderRoot
good_until until root = record { root = root; until = until }

-- A key's row after a rotation. Only the row of the key with this name changes. The key's former
-- root becomes the key's older root.
abbrev pub rotated_key : List ℕ → List ℕ → ℕ → Key → Key
rotated_key name root until key = record key {
  root = if bytes_eq key.name name then root else key.root;
  older = if bytes_eq key.name name then Some (good_until until key.root) else key.older;
}

-- Whether the booking has this key and number and isn't cancelled.
abbrev pub is_marked : List ℕ → ℕ → Booking → Bool
is_marked key number booking = is_under key booking && booking.number == number && not booking.cancelled

-- A booking's row after a cancellation. The row changes only if the booking has this key and number
-- and isn't cancelled yet.
abbrev pub cancelled_booking : List ℕ → ℕ → ℕ → Booking → Booking
cancelled_booking key number refund booking = record booking {
  cancelled = booking.cancelled || is_marked key number booking;
  refund = if is_marked key number booking then refund else booking.refund;
}

-- The closed slots without this slot.
abbrev pub closed_but : Slot → List Slot → List Slot
closed_but slot closed = filter (λ (other : Slot). not (same_slot other slot)) closed

-- The club after a change. Each change adds a row, edits rows, or removes a closed slot.
abbrev pub after : Change → Club → Club
after (InsertMember member) club = record club { members = club.members ++ member ∷ [] }
after (AddCredit name points) club = record club { members = map (credited_member name points) club.members }
after (TakeCredit name points) club = record club { members = map (debited_member name points) club.members }
after (ReplaceQuota name quota) club = record club { members = map (member_with_quota name quota) club.members }
after (InsertFacility facility) club = record club { facilities = club.facilities ++ facility ∷ [] }
after (ReplaceNumbers name places price opens shuts) club =
    record club { facilities = map (facility_with_numbers name places price opens shuts) club.facilities }
after (InsertKey key) club = record club { keys = club.keys ++ key ∷ [] }
after (MarkRevoked name) club = record club { keys = map (revoked_key name) club.keys }
after (ReplaceRoot name former root until) club = record club { keys = map (rotated_key name root until) club.keys }
after (MarkClosed slot) club = record club { closed = club.closed ++ slot ∷ [] }
after (MarkOpen slot) club = record club { closed = closed_but slot club.closed }
after (InsertBooking booking member) club = record club { bookings = club.bookings ++ booking ∷ [] }
after (MarkCancelled booking member refund) club = record club { bookings = map (cancelled_booking booking.key booking.number refund) club.bookings }

-- The values of a change are within their limits. A new key must have no older root, because the
-- statement that inserts a key doesn't store an older root.
abbrev pub InLimits : Change → Type 0
InLimits (InsertMember member) = IsMember member
InLimits (AddCredit name points) = points < 2 ^ 32
InLimits (TakeCredit name points) = points < 2 ^ 32
InLimits (ReplaceQuota name quota) = quota ≤ quota_limit
InLimits (InsertFacility facility) = IsFacility facility
InLimits (ReplaceNumbers name places price opens shuts) = are_limits places price opens shuts ≡ true
InLimits (InsertKey key) = IsKey key × (key.older ≡ None)
InLimits (MarkRevoked name) = Unit {0}
InLimits (ReplaceRoot key former root until) = IsRoot root × IsMoment until
InLimits (MarkClosed slot) = IsSlot slot
InLimits (MarkOpen slot) = IsSlot slot
InLimits (InsertBooking booking member) = IsBooking booking
InLimits (MarkCancelled booking member refund) = refund ≤ booking.charge

-- Whether a change by the office affects the member's part of the club. The member's part contains
-- the member's row, keys and bookings, and all facilities.
abbrev pub is_own : List ℕ → Club → Change → Bool
is_own name club (InsertMember member) = bytes_eq member.name name
is_own name club (AddCredit member points) = bytes_eq member name
is_own name club (TakeCredit member points) = bytes_eq member name
is_own name club (ReplaceQuota member quota) = bytes_eq member name
is_own name club (InsertFacility facility) = true
is_own name club (ReplaceNumbers facility places price opens shuts) = true
is_own name club (InsertKey key) = bytes_eq key.member name
is_own name club (MarkRevoked key) = is_key_of name club key
is_own name club (ReplaceRoot key former root until) = is_key_of name club key
is_own name club (MarkClosed slot) = false
is_own name club (MarkOpen slot) = false
is_own name club (InsertBooking booking member) = false
is_own name club (MarkCancelled booking member refund) = is_key_of name club booking.key

-- Whether the change adds a row.
abbrev pub is_growth : Change → Bool
is_growth (InsertMember member) = true
is_growth (AddCredit member points) = false
is_growth (TakeCredit member points) = false
is_growth (ReplaceQuota member quota) = false
is_growth (InsertFacility facility) = true
is_growth (ReplaceNumbers facility places price opens shuts) = false
is_growth (InsertKey key) = true
is_growth (MarkRevoked key) = false
is_growth (ReplaceRoot key former root until) = false
is_growth (MarkClosed slot) = true
is_growth (MarkOpen slot) = false
is_growth (InsertBooking booking member) = true
is_growth (MarkCancelled booking member refund) = false
