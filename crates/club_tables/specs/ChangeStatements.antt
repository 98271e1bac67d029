-- This file defines the SQL statements of each change, with the values of their parameters.
use Rattle.std.specs.Prelude.{◌≡◌, ℕ, ℤ, pos, neg_ℤ, List, [], ◌∷◌, ◌++◌}
use Rattle.club_core.specs.{Club.cost_of, declared.change.Change.{Change, TheVariants.{InsertMember, AddCredit, InsertFacility, InsertKey, MarkRevoked}}}
use Rattle.club_core.specs.declared.change.Change.TheVariants.{TakeCredit, ReplaceNumbers, ReplaceRoot, MarkClosed, MarkOpen, ReplaceQuota, InsertBooking}
use Rattle.club_core.specs.declared.change.Change.TheVariants.{MarkCancelled}
use Rattle.club_rows.specs.{Rows.persons_of, declared.{booking.Booking.Booking, facility.Facility.Facility, key.{Key.Key, OlderRoot.OlderRoot}}}
use Rattle.club_rows.specs.declared.member.Member.{Member}
use Rattle.club_tables.specs.Columns.{whole, facility_values, key_values, older_root_values, booking_values, name_values, persons_taken}
use Rattle.club_tables.specs.{Transaction.BoundStatement, declared.texts.TheConstants.{ADD_MEMBER, ADD_CREDIT, TAKE_CREDIT, SET_NUMBERS, ADD_FACILITY, ADD_KEY}}
use Rattle.club_tables.specs.declared.texts.TheConstants.{REVOKE_KEY, PUT_OLDER_ROOT, SET_ROOT, CLOSE_SLOT, OPEN_SLOT, SET_QUOTA, ADD_BOOKING, CANCEL_BOOKING}
use Rattle.club_tables.specs.declared.texts.TheConstants.{CHARGE, ADD_USED, ADD_TAKEN}
use Rattle.club_values.specs.declared.slot.Slot.{Slot}
use Rattle.sqlite_value.specs.{Order.Row, declared.value.Value.TheVariants.{Int, Text, Blob}}

-- Inserts a new member. A new member has spent no points on bookings.
abbrev pub adding_member : Member → List BoundStatement
adding_member member = (ADD_MEMBER.now, Text member.name ∷ whole member.credited ∷ whole member.quota ∷ []) ∷ []

abbrev pub adding_credit : List ℕ → ℕ → List BoundStatement
adding_credit member points = (ADD_CREDIT.now, Text member ∷ whole points ∷ []) ∷ []

abbrev pub taking_credit : List ℕ → ℕ → List BoundStatement
taking_credit member points = (TAKE_CREDIT.now, Text member ∷ whole points ∷ []) ∷ []

abbrev pub giving_quota : List ℕ → ℕ → List BoundStatement
giving_quota member quota = (SET_QUOTA.now, Text member ∷ whole quota ∷ []) ∷ []

abbrev pub adding_facility : Facility → List BoundStatement
adding_facility facility = (ADD_FACILITY.now, facility_values facility) ∷ []

-- The parameters for setting a facility's places, price and hours: the facility's name, and then
-- the new numbers.
abbrev pub numbers_values : List ℕ → ℕ → ℕ → ℕ → ℕ → Row
numbers_values facility places price opens shuts = Text facility ∷ whole places ∷ whole price ∷ whole opens ∷ whole shuts ∷ []

abbrev pub giving_numbers : List ℕ → ℕ → ℕ → ℕ → ℕ → List BoundStatement
giving_numbers facility places price opens shuts = (SET_NUMBERS.now, numbers_values facility places price opens shuts) ∷ []

abbrev pub adding_key : Key → List BoundStatement
adding_key key = (ADD_KEY.now, key_values key) ∷ []

abbrev pub revoking : List ℕ → List BoundStatement
revoking key = (REVOKE_KEY.now, Text key ∷ []) ∷ []

abbrev pub closing : Slot → List BoundStatement
closing slot = (CLOSE_SLOT.now, name_values slot) ∷ []

-- Opens a slot, even if it is already open.
abbrev pub reopening : Slot → List BoundStatement
reopening slot = (OPEN_SLOT.now, name_values slot) ∷ []

-- Stores the key's older root, and then sets the key's new root. The second statement writes a row
-- only if the key's current root is `older.root`.
abbrev pub replacing_root : List ℕ → List ℕ → OlderRoot → List BoundStatement
replacing_root key root older =
    (PUT_OLDER_ROOT.now, Text key ∷ older_root_values older) ∷ (SET_ROOT.now, Text key ∷ Blob root ∷ Blob older.root ∷ []) ∷ []

-- The parameters for adding to the points that a member has spent: the member, the added points,
-- and the booking's key.
abbrev pub used_values : List ℕ → ℤ → List ℕ → Row
used_values member points key = Text member ∷ Int points ∷ Text key ∷ []

-- The parameters for charging a member for a booking: the member, the points, the booking's key,
-- and the booking's slot.
abbrev pub charge_values : List ℕ → ℕ → List ℕ → Slot → Row
charge_values member points key slot = Text member ∷ whole points ∷ Text key ∷ name_values slot

-- Inserts a booking under a key of the member, adds the booking's persons to the slot, and charges
-- the member. The last statement writes a row only if the slot has enough places.
abbrev pub adding_booking : Booking → List ℕ → List BoundStatement
adding_booking booking member =
    (ADD_BOOKING.now, booking_values booking)
    ∷ (ADD_TAKEN.now, name_values booking.slot ++ Int (pos (persons_taken booking)) ∷ [])
    ∷ (CHARGE.now, charge_values member (cost_of booking) booking.key booking.slot)
    ∷ []

-- Marks the member's booking as cancelled, if the stored booking has the values of `booking`.
-- Subtracts the refund from the points that the member has spent, and the booking's persons from
-- the slot's persons.
abbrev pub cancelling : Booking → List ℕ → ℕ → List BoundStatement
cancelling booking member refund =
    (CANCEL_BOOKING.now, booking_values booking ++ whole refund ∷ [])
    ∷ (ADD_USED.now, used_values member (neg_ℤ (pos refund)) booking.key)
    ∷ (ADD_TAKEN.now, name_values booking.slot ++ Int (neg_ℤ (pos (persons_of booking))) ∷ [])
    ∷ []

-- The statements of a change, with the values of their parameters.
abbrev pub statements_of : Change → List BoundStatement
statements_of (InsertMember member) = adding_member member
statements_of (AddCredit member points) = adding_credit member points
statements_of (TakeCredit member points) = taking_credit member points
statements_of (ReplaceQuota member quota) = giving_quota member quota
statements_of (InsertFacility facility) = adding_facility facility
statements_of (ReplaceNumbers facility places price opens shuts) = giving_numbers facility places price opens shuts
statements_of (InsertKey key) = adding_key key
statements_of (MarkRevoked key) = revoking key
statements_of (ReplaceRoot key former root until) = replacing_root key root (record { root = former; until = until })
statements_of (MarkClosed slot) = closing slot
statements_of (MarkOpen slot) = reopening slot
statements_of (InsertBooking booking member) = adding_booking booking member
statements_of (MarkCancelled booking member refund) = cancelling booking member refund

abbrev pub AreStatementsOf : Change → List BoundStatement → Type 0
AreStatementsOf change statements = statements ≡ statements_of change
