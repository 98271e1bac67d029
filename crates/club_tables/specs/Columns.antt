-- This file defines the rows that the tables store for a club, and the values of a row's columns.
-- Numbers and truth values are stored as integers, names and kinds as texts, and roots as bytes.
use Rattle.std.specs.Prelude.{◌≡◌, ◌≢◌, ◌≤◌, ℕ, false, List, map, find, sum_by, Option, option_map, if◌then◌else◌, unwrap_or, AllPairs, ◌+◌, ◌-◌, ℤ, pos, Bool}
use Rattle.std.specs.{Prelude.{[], ◌∷◌, ◌++◌, Some, None, ⊤}, Str.bytes_eq}
use Rattle.club_core.specs.{Basis.slot_use, Club.{Club, bookings_of, older_root_of, cost_of}, declared.slot_use.SlotUse.SlotUse}
use Rattle.club_rows.specs.{Columns.truth, Rows.{same_slot, persons_of, credited_limit, IsMember, charge_limit}, declared.booking.Booking.Booking}
use Rattle.club_rows.specs.declared.{facility.Facility.Facility, key.{Key.Key, OlderRoot.OlderRoot}, member.Member.Member}
use Rattle.club_tables.specs.declared.row.MemberRow.{MemberRow}
use Rattle.club_values.specs.{Kind.kind_text, declared.slot.Slot.Slot}
use Rattle.sqlite_value.specs.{Order.{Row, column}, declared.value.Value.{Value, TheVariants.{Int, Text, Blob}}}

-- A row of the table `slots`: a slot, and the slot's use. The use is the number of persons in the
-- slot, and whether the slot is closed.
pub record SlotRow : Type 0 where
  pub slot : Slot
  pub held : SlotUse

-- A row of the table `old_roots`: the name of a key, and its older root.
pub record OlderRow : Type 0 where
  pub key : List ℕ
  pub older : OlderRoot

-- The rows of all tables of a club.
pub record Rows : Type 0 where
  pub members : List MemberRow
  pub facilities : List Facility
  pub keys : List Key
  pub slots : List SlotRow
  pub bookings : List Booking
  pub olders : List OlderRow

-- The points that a member has spent on bookings.
abbrev pub used_by : Club → List ℕ → ℕ
used_by club name = sum_by cost_of (bookings_of name club)

abbrev pub member_row : Club → Member → MemberRow
member_row club member = record { member = member; used = used_by club member.name }

pub record IsMemberRow (row : MemberRow) : Type 0 where
  pub member : IsMember row.member
  pub used : row.used ≤ credited_limit

abbrev pub no_slot_use : SlotUse
no_slot_use = record { taken = 0; closed = false }

abbrev pub row_of : Slot → List SlotRow → Option SlotRow
row_of slot rows = find (λ (row : SlotRow). same_slot row.slot slot) rows

-- The `SlotUse` that the rows of the table `slots` store for a slot. A slot without a row is open,
-- and none of its places is taken.
abbrev pub stored_slot_use : Slot → List SlotRow → SlotUse
stored_slot_use slot rows = unwrap_or (option_map (λ (row : SlotRow). row.held) (row_of slot rows)) no_slot_use

-- The older root of a key, from the rows of the table `old_roots`. The result is `None` if the key
-- has no row.
abbrev pub older_by : List ℕ → List OlderRow → Option OlderRoot
older_by name rows = option_map (λ (row : OlderRow). row.older) (find (λ (row : OlderRow). bytes_eq row.key name) rows)

-- The rows match the club, and each stored total equals the sum over the bookings. The rows of
-- slots and older roots may be in any order.
pub record IsStoredAs (club : Club) (rows : Rows) : Type 0 where
  pub members : rows.members ≡ map (member_row club) club.members
  pub facilities : rows.facilities ≡ club.facilities
  pub keys : rows.keys ≡ club.keys
  pub bookings : rows.bookings ≡ club.bookings
  pub slots : (slot : Slot) → stored_slot_use slot rows.slots ≡ slot_use club slot
  pub olders : (name : List ℕ) → older_by name rows.olders ≡ older_root_of name club
  pub olders_once : AllPairs (λ (a : OlderRow) (b : OlderRow). a.key ≢ b.key) rows.olders
  pub once : AllPairs (λ (a : SlotRow) (b : SlotRow). a.slot ≢ b.slot) rows.slots

-- The number of places that a booking takes in its slot. A cancelled booking takes no places.
abbrev pub persons_taken : Booking → ℕ
persons_taken booking = if booking.cancelled then 0 else persons_of booking

abbrev pub whole : ℕ → Value
whole n = Int (pos n)

abbrev pub flag : Bool → Value
flag b = whole (truth b)

abbrev pub version_values : ℕ → Row
version_values version = whole version ∷ []

abbrev pub member_values : MemberRow → Row
member_values row =
    Text row.member.name ∷ whole row.member.credited ∷ whole row.member.quota ∷ whole row.used ∷ []

abbrev pub facility_values : Facility → Row
facility_values facility =
    Text facility.name ∷ Text (kind_text facility.kind) ∷ whole facility.places ∷ whole facility.price ∷ whole facility.opens
    ∷ whole facility.shuts ∷ []

abbrev pub key_values : Key → Row
key_values key = Text key.name ∷ Text key.member ∷ Blob key.root ∷ flag key.revoked ∷ []

-- The column values that identify a slot.
abbrev pub name_values : Slot → Row
name_values slot = Text slot.facility ∷ whole slot.day ∷ whole slot.hour ∷ []

abbrev pub use_values : SlotUse → Row
use_values held = flag held.closed ∷ whole held.taken ∷ []

abbrev pub slot_values : SlotRow → Row
slot_values row = name_values row.slot ++ use_values row.held

-- The two column values that the query for an older root returns.
abbrev pub older_root_values : OlderRoot → Row
older_root_values older = Blob older.root ∷ whole older.until ∷ []

abbrev pub older_values : OlderRow → Row
older_values row = Text row.key ∷ older_root_values row.older

abbrev pub booking_values : Booking → Row
booking_values booking =
    Text booking.key ∷ whole booking.number ∷ Text booking.slot.facility ∷ whole booking.slot.day ∷ whole booking.slot.hour
    ∷ whole booking.guests ∷ whole booking.charge ∷ whole booking.left ∷ flag booking.cancelled ∷ whole booking.refund ∷ []

-- The row contains these values in consecutive columns, starting at this index.
abbrev pub HasFrom : ℕ → Row → Row → Type 0
HasFrom at row [] = ⊤
HasFrom at row (value ∷ values) = (column row at ≡ value) × HasFrom (at + 1) row values

abbrev pub HasValues : Row → Row → Type 0
HasValues = HasFrom 0

abbrev pub text_in : Value → Option (List ℕ)
text_in (Text text) = Some text
text_in _ = None

abbrev pub bytes_in : Value → Option (List ℕ)
bytes_in (Blob bytes) = Some bytes
bytes_in _ = None

abbrev pub integer_in : Value → Option ℤ
integer_in (Int n) = Some n
integer_in _ = None

-- The number that a value contains, if the value is an integer of at least 0. For any other value,
-- the result is 0.
abbrev pub whole_in : Value → ℕ
whole_in (Int (pos n)) = n
whole_in _ = 0

-- The two column values that a query returns for the cost of a booking: the booking's charge and
-- refund.
abbrev pub cost_values : Booking → Row
cost_values booking = whole booking.charge ∷ whole booking.refund ∷ []

-- The cost in a row of two columns: the charge minus the refund.
abbrev pub cost_in : Row → ℕ
cost_in row = whole_in (column row 0) - whole_in (column row 1)

-- The row contains a charge and a refund, and the cost is the charge minus the refund. The charge
-- is within its limit, and the refund is at most the charge.
pub record IsCostIn (row : Row) (cost : ℕ) : Type 0 where
  pub charge : ℕ
  pub refund : ℕ
  pub charge_column : column row 0 ≡ whole charge
  pub refund_column : column row 1 ≡ whole refund
  pub largest : charge ≤ charge_limit
  pub at_most : refund ≤ charge
  pub left : cost + refund ≡ charge

abbrev pub IsCostRow : Row → Type 0
IsCostRow row = (cost : ℕ) × IsCostIn row cost
