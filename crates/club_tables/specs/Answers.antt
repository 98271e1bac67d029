-- This file defines the rows that a query returns, how they are decoded, and why a read fails.
use Rattle.std.specs.{List.AllZip, Prelude.{◌≡◌, ℕ, List, map, ◌⊎◌, [], ◌∷◌, fold, max, ◌<◌, ◌≤◌, ◌^◌, ◌/◌, length, sum_by, All, Option, None, Result, IfOk}}
use Rattle.std.specs.Prelude.{IfErr, IsSomeAnd}
use Rattle.club_core.specs.{Basis.slot_use, Club.Club, Sheet.AreRowsOf, declared.{slot_use.SlotUse.SlotUse, store.StoreFault.{StoreFault, TheVariants.Memory}}}
use Rattle.club_core.specs.declared.store.StoreFault.TheVariants.{Storage}
use Rattle.club_rows.specs.{Rows.{IsBooking, key_of_row, places_limit, IsFacility, IsKeyRow, IsOlderRoot}, declared.booking.Booking.Booking}
use Rattle.club_rows.specs.declared.{facility.Facility.Facility, key.{KeyRow.KeyRow, OlderRoot.OlderRoot}}
use Rattle.club_tables.specs.Columns.{HasValues, booking_values, use_values, no_slot_use, whole_in, whole, IsCostRow, cost_in, key_values, older_root_values}
use Rattle.club_tables.specs.{Columns.{member_values, facility_values, name_values, IsMemberRow}, Transaction.{FailsToAsk, BoundStatement, Asked, IsUntouched}}
use Rattle.club_tables.specs.declared.{row.MemberRow.MemberRow, texts.TheConstants.{TAKEN, KEY, OLDER_ROOT, MEMBER, FACILITY, SLOT, BOOKING, COSTS_UNDER_KEY}}
use Rattle.club_tables.specs.declared.texts.TheConstants.{DAY, OPEN}
use Rattle.club_values.specs.{Moment.minutes_a_day, declared.slot.Slot.Slot}
use Rattle.sqlite.specs.{Held.{Held, state}, State.HasCleanDisk, Store.Ghosts}
use Rattle.sqlite_value.specs.{Order.{Row, column}, declared.value.Value.TheVariants.Text}

-- The rows contain the bookings of the day, in the order of the day sheet.
abbrev pub ShowsDay : Club → ℕ → List Row → Type 0
ShowsDay club day rows = (bookings : List Booking) × AreRowsOf club day bookings × (rows ≡ map booking_values bookings)

-- There is one row for each booking, in the same order. Each row contains the values of its
-- booking, and each booking is within its limits.
abbrev pub AreBookings : List Row → List Booking → Type 0
AreBookings = AllZip (λ row booking. IsBooking booking × HasValues row (booking_values booking))

-- The query returns either one row with the slot's `SlotUse`, or no row. If the query returns no
-- row, the slot is open and none of its places is taken.
abbrev pub ShowsUse : Club → Slot → List Row → Type 0
ShowsUse club slot rows =
    (rows ≡ use_values (slot_use club slot) ∷ []) ⊎ ((rows ≡ []) × (slot_use club slot ≡ no_slot_use))

-- The row contains the column values of this key, and the values are within their limits.
abbrev pub IsKeyIn : Row → KeyRow → Type 0
IsKeyIn row key = IsKeyRow key × HasValues row (key_values (key_of_row key None))

abbrev pub IsOlderRootIn : Row → OlderRoot → Type 0
IsOlderRootIn row older = IsOlderRoot older × HasValues row (older_root_values older)

abbrev pub IsMemberIn : Row → MemberRow → Type 0
IsMemberIn row found = IsMemberRow found × HasValues row (member_values found)

abbrev pub IsFacilityIn : Row → Facility → Type 0
IsFacilityIn row facility = IsFacility facility × HasValues row (facility_values facility)

abbrev pub IsBookingIn : Row → Booking → Type 0
IsBookingIn row booking = IsBooking booking × HasValues row (booking_values booking)

-- The row decodes to a booking, and the booking has this key and number.
abbrev pub IsBookingNamed : List ℕ → ℕ → Row → Booking → Type 0
IsBookingNamed key number row booking = IsBookingIn row booking × ((booking.key ≡ key) × (booking.number ≡ number))

abbrev pub IsUseIn : Row → SlotUse → Type 0
IsUseIn row found = (found.taken ≤ places_limit) × HasValues row (use_values found)

-- The optional value is decoded from the first row. The value is `None` if and only if there is no
-- row.
abbrev pub IsFirst : {A : Type 0} → (Row → A → Type 0) → List Row → Option A → Type 0
IsFirst Yields [] found = found ≡ None
IsFirst Yields (row ∷ rows) found = IsSomeAnd found (Yields row)

-- The rows decode to this `SlotUse`. If there is no row, the slot is open and none of its places is
-- taken. Two or more rows can't be decoded.
abbrev pub IsUse : List Row → SlotUse → Type 0
IsUse [] found = found ≡ no_slot_use
IsUse (row ∷ []) found = IsUseIn row found
IsUse (row ∷ other ∷ rows) found = ⊥

-- The number is the total cost of the rows. Each row consists of a charge and a refund.
abbrev pub AreCosts : List Row → ℕ → Type 0
AreCosts rows cost = All IsCostRow rows × (cost ≡ sum_by cost_in rows) × (cost < 2 ^ 64)

-- The row contains a number of persons. This number is at most `places_limit`.
abbrev pub IsTakenRow : Row → Type 0
IsTakenRow row = (taken : ℕ) × (taken ≤ places_limit) × (column row 0 ≡ whole taken)

-- The highest number in the first column of the rows, or 0 if there are no rows.
abbrev pub most_in : List Row → ℕ
most_in rows = fold (λ most row. max most (whole_in (column row 0))) 0 rows

abbrev pub IsMostIn : List Row → ℕ → Type 0
IsMostIn rows most = All IsTakenRow rows × (most ≡ most_in rows)

-- The count is the number of rows.
abbrev pub IsCount : List Row → ℕ → Type 0
IsCount rows count = count ≡ length rows

-- The query returned rows that can't be decoded. The fault is `Storage`.
pub record IsUnread {S : Type 0} (g : Ghosts S) (statement : BoundStatement) (CanRead : List Row → Type 0) (old : Held S) (fault : StoreFault) : Type 0 where
  pub rows : List Row
  pub query : Asked g statement.0 statement.1 old rows
  pub unread : ¬ CanRead rows
  pub fault_is : fault ≡ Storage

-- The read fails because the database refused the query, or because the rows can't be decoded.
abbrev pub FailsToRead : {S : Type 0} → Ghosts S → BoundStatement → (List Row → Type 0) → Held S → Held S → StoreFault → Type 0
FailsToRead g statement CanRead old new fault = FailsToAsk g statement old new fault ⊎ IsUnread g statement CanRead old fault

-- The result is decoded from the rows that the query returned. The call fails in two cases only:
-- - If the database refuses the query, the call returns the fault for the database's error.
-- - If the rows can't be decoded, the call returns `Storage`.
pub record Answers {S A : Type 0} (g : Ghosts S) (statement : BoundStatement) (IsAnswer : List Row → A
    → Type 0) (old new : Held S) (result : Result A StoreFault) : Type 0
  where
    pub success : HasCleanDisk (state g new) → IfOk result (λ answer. (rows : List Row) × Asked g statement.0 statement.1 old rows × IsAnswer rows answer)
    pub failure : HasCleanDisk (state g new) → IfErr result (FailsToRead g statement (λ rows. (answer : A) × IsAnswer rows answer) old new)

-- The reads of a club's tables, with their arguments.
pub data Reading : Type 0 where
  OfKey : (name : List ℕ) → Reading
  OfOlderRoot : (key : List ℕ) → Reading
  OfMember : (name : List ℕ) → Reading
  OfFacility : (name : List ℕ) → Reading
  OfSlot : (slot : Slot) → Reading
  OfBooking : (key : List ℕ) (number : ℕ) → Reading
  OfCosts : (key : List ℕ) → Reading
  OfTaken : (facility : List ℕ) → Reading
  OfDay : (day : ℕ) → Reading
  OfOpen : (member : List ℕ) (moment : ℕ) → Reading

-- The SQL statement of a read, with the values of its parameters.
abbrev pub reading_statement : Reading → BoundStatement
reading_statement (OfKey name) = (KEY.now, Text name ∷ [])
reading_statement (OfOlderRoot key) = (OLDER_ROOT.now, Text key ∷ [])
reading_statement (OfMember name) = (MEMBER.now, Text name ∷ [])
reading_statement (OfFacility name) = (FACILITY.now, Text name ∷ [])
reading_statement (OfSlot slot) = (SLOT.now, name_values slot)
reading_statement (OfBooking key number) = (BOOKING.now, Text key ∷ whole number ∷ [])
reading_statement (OfCosts key) = (COSTS_UNDER_KEY.now, Text key ∷ [])
reading_statement (OfTaken facility) = (TAKEN.now, Text facility ∷ [])
reading_statement (OfDay day) = (DAY.now, whole day ∷ [])
reading_statement (OfOpen member moment) = (OPEN.now, Text member ∷ whole moment ∷ whole (moment / minutes_a_day) ∷ [])

-- The read can decode these rows.
abbrev pub CanRead : Reading → List Row → Type 0
CanRead (OfKey name) rows = (found : Option KeyRow) × IsFirst IsKeyIn rows found
CanRead (OfOlderRoot key) rows = (found : Option OlderRoot) × IsFirst IsOlderRootIn rows found
CanRead (OfMember name) rows = (found : Option MemberRow) × IsFirst IsMemberIn rows found
CanRead (OfFacility name) rows = (found : Option Facility) × IsFirst IsFacilityIn rows found
CanRead (OfSlot slot) rows = (found : SlotUse) × IsUse rows found
CanRead (OfBooking key number) rows = (found : Option Booking) × IsFirst (IsBookingNamed key number) rows found
CanRead (OfCosts key) rows = (cost : ℕ) × AreCosts rows cost
CanRead (OfTaken facility) rows = (most : ℕ) × IsMostIn rows most
CanRead (OfDay day) rows = (bookings : List Booking) × AreBookings rows bookings
CanRead (OfOpen member moment) rows = (count : ℕ) × IsCount rows count

-- The query for a day returned its rows, but there was no memory for the decoded bookings.
abbrev pub LacksMemory : {S : Type 0} → Ghosts S → Reading → Held S → StoreFault → Type 0
LacksMemory g (OfDay day) old fault = (fault ≡ Memory) × (rows : List Row) × Asked g DAY.now (whole day ∷ []) old rows
LacksMemory g _ old fault = ⊥

abbrev pub FailsAtReading : {S : Type 0} → Ghosts S → Reading → Held S → Held S → StoreFault → Type 0
FailsAtReading g reading old new fault = FailsToRead g (reading_statement reading) (CanRead reading) old new fault ⊎ LacksMemory g reading old fault

-- `new` is the connection `old` after reads. If no write was pending, the reads don't change the
-- connection.
pub record IsAfterReadings {S : Type 0} (g : Ghosts S) (old new : Held S) : Type 0 where
  pub same : IsUntouched (state g old) (state g new)
  pub clean : HasCleanDisk (state g new)
  pub fault_count : (state g old).faults ≤ (state g new).faults

-- A read failed with this fault, perhaps after other reads.
pub record IsReadFault {S : Type 0} (g : Ghosts S) (old new : Held S) (fault : StoreFault) : Type 0 where
  pub from : Held S
  pub after : IsAfterReadings g old from
  pub reading : Reading
  pub failure : FailsAtReading g reading from new fault
