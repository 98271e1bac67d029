-- Defines the limits of single values and of the club's rows, and the two parts of a key. Also
-- defines a booking's persons and refund, and a facility's charges and times.
use Rattle.std.specs.Prelude.{ℕ, ◌-◌, ◌*◌, ◌≤◌, List, length, ◌+◌, ◌/◌, ◌==◌, ◌&&◌, Bool, nat_le, if◌then◌else◌, nat_lt, Option, Some, None, ◌≡◌, false, ◌<◌}
use Rattle.std.specs.{Prelude.IfSome, Str.bytes_eq}
use Rattle.club_rows.specs.declared.{booking.Booking.Booking, facility.Facility.Facility, key.{Key.Key, KeyRow.KeyRow, OlderRoot.OlderRoot}}
use Rattle.club_rows.specs.declared.member.Member.{Member}
use Rattle.club_values.specs.{Moment.{hours_a_day, guests_limit, minutes_a_day, start_of, IsDay, IsHour, IsMoment}, Name.IsName, Number.number_limit}
use Rattle.club_values.specs.declared.slot.Slot.{Slot}

-- The highest value of a member's `credited`, in points. A member's `credited` is the sum of all
-- credits minus the sum of all debits.
abbrev pub credited_limit : ℕ
credited_limit = number_limit

-- The highest quota. A quota is the maximum number of open bookings that a member can have.
abbrev pub quota_limit : ℕ
quota_limit = 99

-- The maximum number of places in a slot.
abbrev pub places_limit : ℕ
places_limit = 50

-- The highest price of a facility, in points per person and slot.
abbrev pub price_limit : ℕ
price_limit = 9_999

-- The latest closing hour of a facility.
abbrev pub shutting_limit : ℕ
shutting_limit = hours_a_day

-- The highest charge of a booking, in points: the maximum number of places times the highest price.
abbrev pub charge_limit : ℕ
charge_limit = places_limit * price_limit

-- The maximum number of free places in a slot after a booking. A booking takes at least one place.
abbrev pub left_limit : ℕ
left_limit = places_limit - 1

-- The highest booking number.
abbrev pub booking_number_limit : ℕ
booking_number_limit = number_limit

abbrev pub IsBookingNumber : ℕ → Type 0
IsBookingNumber n = (1 ≤ n) × (n ≤ booking_number_limit)

abbrev pub IsGuests : ℕ → Type 0
IsGuests n = n ≤ guests_limit

-- The minimum number of bytes in a root.
abbrev pub min_root_len : ℕ
min_root_len = 16

-- The maximum number of bytes in a root.
abbrev pub max_root_len : ℕ
max_root_len = 64

abbrev pub IsRoot : List ℕ → Type 0
IsRoot bytes = (min_root_len ≤ length bytes) × (length bytes ≤ max_root_len)

abbrev pub same_slot : Slot → Slot → Bool
same_slot a b = bytes_eq a.facility b.facility && a.day == b.day && a.hour == b.hour

-- The number of persons of a booking: the guests and the member.
abbrev pub persons_of : Booking → ℕ
persons_of booking = booking.guests + 1

-- A cancellation gets a full refund if at least this many minutes remain before the slot starts.
-- The value is one day in minutes.
abbrev pub full_refund_ahead : ℕ
full_refund_ahead = minutes_a_day

-- The refund for a cancellation at this moment. If at least one day remains before the slot starts,
-- the refund is the whole charge. Otherwise, the refund is half of the charge, rounded down.
abbrev pub refund_at : Booking → ℕ → ℕ
refund_at booking moment =
    if nat_le (moment + full_refund_ahead) (start_of booking.slot) then booking.charge else booking.charge / 2

-- The charge for a booking, in points: the facility's price for the member and for each guest.
abbrev pub charge_of : Facility → ℕ → ℕ
charge_of facility guests = facility.price * (guests + 1)

abbrev pub is_open_at : Facility → ℕ → Bool
is_open_at facility hour = nat_le facility.opens hour && nat_lt hour facility.shuts

-- The maximum number of minutes between making a booking and the start of the slot. The value is 60
-- days in minutes.
abbrev pub booking_window : ℕ
booking_window = 60 * minutes_a_day

-- The slot is within the opening hours. The slot begins after the moment, but at most
-- `booking_window` minutes after the moment.
abbrev pub is_bookable : Facility → Slot → ℕ → Bool
is_bookable facility slot moment =
    is_open_at facility slot.hour && nat_lt moment (start_of slot) && nat_le (start_of slot) (moment + booking_window)

-- The older root, if the older root is still valid at this moment. Otherwise, the result is `None`.
abbrev pub older_root_at : Option OlderRoot → ℕ → Option (List ℕ)
older_root_at None moment = None
older_root_at (Some older) moment = if nat_lt moment older.until then Some older.root else None

-- The row of a key, without the older root.
abbrev pub row_of_key : Key → KeyRow
row_of_key key = record { name = key.name; member = key.member; root = key.root; revoked = key.revoked }

-- The key with this row and this older root.
abbrev pub key_of_row : KeyRow → Option OlderRoot → Key
key_of_row row older = record { name = row.name; member = row.member; root = row.root; older = older; revoked = row.revoked }

pub record IsMember (member : Member) : Type 0 where
  pub name : IsName member.name
  pub credited : member.credited ≤ credited_limit
  pub quota : member.quota ≤ quota_limit

pub record IsFacility (facility : Facility) : Type 0 where
  pub name : IsName facility.name
  pub some_places : 1 ≤ facility.places
  pub few_places : facility.places ≤ places_limit
  pub price : facility.price ≤ price_limit
  pub opens : facility.opens < facility.shuts
  pub shuts : facility.shuts ≤ shutting_limit

pub record IsOlderRoot (older : OlderRoot) : Type 0 where
  pub root : IsRoot older.root
  pub until : IsMoment older.until

pub record IsKeyRow (row : KeyRow) : Type 0 where
  pub name : IsName row.name
  pub member : IsName row.member
  pub root : IsRoot row.root

pub record IsKey (key : Key) : Type 0 where
  pub name : IsName key.name
  pub member : IsName key.member
  pub root : IsRoot key.root
  pub older : IfSome key.older IsOlderRoot

pub record IsSlot (slot : Slot) : Type 0 where
  pub facility : IsName slot.facility
  pub day : IsDay slot.day
  pub hour : IsHour slot.hour

pub record IsBooking (booking : Booking) : Type 0 where
  pub key : IsName booking.key
  pub number : IsBookingNumber booking.number
  pub slot : IsSlot booking.slot
  pub guests : IsGuests booking.guests
  pub charge : booking.charge ≤ charge_limit
  pub left : booking.left ≤ left_limit
  pub refund : booking.refund ≤ booking.charge
  pub kept : booking.cancelled ≡ false → booking.refund ≡ 0
