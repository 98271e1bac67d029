-- Lemmas about statements that insert a row or update the row of a slot or an older root, and
-- about the constraints of the tables.
use Rattle.std.proofs.Common.{unwrap_or}
use Rattle.club_tables.proofs.Common.{pos, List, [], map, ◌∷◌, ◌++◌, refl, sym, subst, ◌≡◌, ◌≢◌, ◌≤◌, ℕ, ◌/◌, ℤ, true, false, if◌then◌else◌, Some, Option}
use Rattle.club_tables.proofs.Common.{length, ap, ◌∙◌, Bool, slice_get, None, AllPairs, option_map, bytes_eq, bytes_eq-Decides, and-true, or-false, everything}
use Rattle.club_tables.proofs.Common.{Null, Int, Text, Table, Term, lit, col, op2, eval_all, Values, Insert, understood, Value, Arith, Add, binary, Row, column}
use Rattle.club_tables.proofs.Common.{rowid, cast, cast_row, next_rowid, shown, value_rows, command_of, first_key, conflicts, Database, works, Enforced, truth}
use Rattle.club_tables.proofs.Common.{Member, Facility, Key, Booking, Slot, same_slot, SlotUse, OlderRoot, MemberRow, ADD_MEMBER, ADD_FACILITY, ADD_KEY}
use Rattle.club_tables.proofs.Common.{ADD_BOOKING, CLOSE_SLOT, OPEN_SLOT, ADD_TAKEN, PUT_OLDER_ROOT, members_table, facilities_table, keys_table}
use Rattle.club_tables.proofs.Common.{bookings_table, club_schema, slots_table, old_roots_table, whole, member_values, facility_values, key_values}
use Rattle.club_tables.proofs.Common.{booking_values, flag, name_values, use_values, slot_values, older_root_values, older_values, Rows, SlotRow, no_slot_use}
use Rattle.club_tables.proofs.Common.{OlderRow, older_by, stored_slot_use, row_of, Holds, members_tree, facilities_tree, keys_tree, bookings_tree, HoldsRows}
use Rattle.club_tables.proofs.Common.{slots_tree, olders_tree, list_all, holds, is_true, Compare, Eq, Binary, ◌&&◌, not, State, Executes, Ok, arith, Integer}
use Rattle.club_tables.proofs.Common.{◌==◌, Contains, inl, inr, and_parts, list_any, AllByRecursion, AllZip, Less, value_cmp, Has, all_has, ascending-map}
use Rattle.club_tables.proofs.Common.{ascending_from_map, IsTable, IsRowOf, contains_had, value_cmp_total, all-map, all_from_map, all_weaker}
use Rattle.club_tables.proofs.{Common.{false_from_ne_true, true≢false, some_has, plain, joined}, JoinLemmas.holds_more, MemberLemmas.{same_slots, no_truth}}
use Rattle.club_tables.proofs.{MemberLemmas.apart_last, PutLemmas.{lone, by_put, put_once as once_put, slots_conflict, slot_table, same_itself, changed}}
use Rattle.club_tables.proofs.PutLemmas.{same_row as unchanged, put_slot, new_row as new_row_of, PutsRow, first_clause, row_put, row_allowed, put_among}
use Rattle.club_tables.proofs.SelectLemmas.{found, text_equal, whole_equal, Wrote, Means, on_members, on_facilities, on_keys, on_bookings, Steps, on_slots}
use Rattle.club_tables.proofs.{SelectLemmas.{on_olders, any_filtered_is, as_many, Apart, paired, id_row}, UpdateLemmas.{inserts, cast_null, cast_int, Below}}
use Rattle.sqlite_rules.proofs.{ListLemmas.some_from, ProbeLemmas.mapped_has}
use Rattle.sqlite_schema.specs.{Names.same_name, Rules.{Obeys, agree, differ}, declared.schema.Constraint.TheVariants.{Unique, ForeignKey}}

-- An inserted row becomes the last row of its table.

added : {X : Type 0} (values : X → Row) {text : List ℕ} (at width : ℕ) (terms : List Term) → Means club_schema text (Insert at (Values terms width))
    → (table : Table) → slice_get club_schema.tables at ≡ Some table → table.is_counted ≡ false
    → table.stamps ≡ record { places = []; terms = []; formats = [] } → ((row : Row) → works club_schema Enforced 0 table.tree [] (row ∷ []) ≡ [])
    → (params : Row) (x : X) → value_rows params width (length terms / width) terms ≡ (Null ∷ values x) ∷ []
    → cast_row table (Null ∷ values x) ≡ Null ∷ values x → (rows next : Rows) (xs : List X)
    → ((old : Database) → HoldsRows old rows → Holds values (old.trees table.tree) xs)
    → ((old new : Database) → HoldsRows old rows → Wrote club_schema old new table.tree → Holds values (new.trees table.tree) (xs ++ x ∷ [])
    → HoldsRows new next) → Steps (text, params) rows next
added values at width terms means table listed uncounted unstamped still params x gives casts rows next xs held on old new count holds_rows ran =
    let put = inserts means table listed uncounted unstamped still old new holds_rows.schema params (values x) gives casts count ran in
    (on old.now new.now holds_rows put.0 (subst (λ rs. Holds values rs (xs ++ x ∷ [])) (sym put.1) (holds_more values _ xs x (held old.now holds_rows))), put.2)

-- Lemmas about the statement that inserts a member.

abbrev pub member_table : Table
member_table = record members_table { tree = members_tree }

-- The row of a new member, who has spent no points on bookings.
abbrev pub new_row : Member → MemberRow
new_row member = record { member = member; used = 0 }

pub member_put : (rows : Rows) (member : Member) → Steps (ADD_MEMBER.now, Text member.name ∷ whole member.credited ∷ whole member.quota ∷ []) rows
    (record rows { members = rows.members ++ new_row member ∷ [] })
unfolding understood everything
member_put rows member =
    added member_values 1 5 (lit Null ∷ col 0 0 ∷ col 0 1 ∷ col 0 2 ∷ lit (Int (pos 0)) ∷ []) (record { is = refl; plain = (refl, refl) }) member_table
    refl refl refl (λ row. refl) _ (new_row member) refl (simp (cast_null, cast_int)) rows _ rows.members
    (λ old holds_rows. holds_rows.held.members) (λ old new holds_rows wrote held. on_members holds_rows wrote held)

-- Lemmas about the statement that inserts a facility.

abbrev pub facility_table : Table
facility_table = record facilities_table { tree = facilities_tree }

pub facility_put : (rows : Rows) (facility : Facility) → Steps (ADD_FACILITY.now, facility_values facility) rows
    (record rows { facilities = rows.facilities ++ facility ∷ [] })
unfolding understood everything
facility_put rows facility =
    added facility_values 2 7 (lit Null ∷ map (col 0) (0 ∷ 1 ∷ 2 ∷ 3 ∷ 4 ∷ 5 ∷ [])) (record { is = refl; plain = (refl, refl) }) facility_table
    refl refl refl (λ row. refl) _ facility refl (simp (cast_null, cast_int)) rows _ rows.facilities
    (λ old holds_rows. holds_rows.held.facilities) (λ old new holds_rows wrote held. on_facilities holds_rows wrote held)

-- Lemmas about the statement that inserts a key.

abbrev pub key_table : Table
key_table = record keys_table { tree = keys_tree }

pub key_put : (rows : Rows) (key : Key) → Steps (ADD_KEY.now, key_values key) rows (record rows { keys = rows.keys ++ key ∷ [] })
unfolding understood everything
key_put rows key =
    added key_values 3 5 (lit Null ∷ map (col 0) (0 ∷ 1 ∷ 2 ∷ 3 ∷ [])) (record { is = refl; plain = (refl, refl) }) key_table
    refl refl refl (λ row. refl) _ key refl (simp (cast_null, cast_int)) rows _ rows.keys
    (λ old holds_rows. holds_rows.held.keys) (λ old new holds_rows wrote held. on_keys holds_rows wrote held)

-- Lemmas about the statement that inserts a booking.

abbrev pub booking_table : Table
booking_table = record bookings_table { tree = bookings_tree }

pub booking_put : (rows : Rows) (booking : Booking) → Steps (ADD_BOOKING.now, booking_values booking) rows
    (record rows { bookings = rows.bookings ++ booking ∷ [] })
unfolding understood everything
booking_put rows booking =
    added booking_values 5 11 (lit Null ∷ map (col 0) (0 ∷ 1 ∷ 2 ∷ 3 ∷ 4 ∷ 5 ∷ 6 ∷ 7 ∷ 8 ∷ 9 ∷ [])) (record { is = refl; plain = (refl, refl) }) booking_table
    refl refl refl (λ row. refl) _ booking refl (simp (cast_null, cast_int)) rows _ rows.bookings
    (λ old holds_rows. holds_rows.held.bookings) (λ old new holds_rows wrote held. on_bookings holds_rows wrote held)

abbrev target : Option (List ℕ)
target = Some (1 ∷ 2 ∷ 3 ∷ [])

abbrev PutsSlot : List ℕ → List Term → List Term → List Term → ℕ → Type 0
PutsSlot text terms more sets at =
    PutsRow slots_table.name slots_table.columns slots_table.uniques slots_table.checks slots_table.references slots_tree target 4 text terms more sets 6 at
    (first_clause (command_of (understood club_schema text)))

module _ {text : List ℕ} {terms more sets : List Term} {at : ℕ} (puts : PutsSlot text terms more sets at) (rows : Rows)
    (once : AllPairs (λ (a : SlotRow) (b : SlotRow). a.slot ≢ b.slot) rows.slots) (slot : Slot) (params : Row) (closed taken : Value)
    (gives : value_rows params 6 (length terms / 6) terms ≡ (Null ∷ name_values slot ++ closed ∷ taken ∷ []) ∷ [])
    (casts_closed : cast Integer closed ≡ closed) (casts_taken : cast Integer taken ≡ taken) (change : SlotUse → SlotUse) where
  abbrev is_of_slot : SlotRow → Bool
  is_of_slot row = same_slot row.slot slot

  -- The values that an ON CONFLICT clause can read: the parameters, the rowid of the existing row,
  -- and the new row.
  abbrev sees : Row → ℤ → Row
  sees there id = params ++ rowid there ∷ shown slot_table (Int id ∷ name_values slot ++ closed ∷ taken ∷ [])

  slot_put : (row_of slot rows.slots ≡ None → closed ∷ taken ∷ [] ≡ use_values (change no_slot_use))
      → ((there : Row) (next : ℤ) → column (sees there next) at ≡ rowid there) → ((x : SlotRow) → row_of slot rows.slots ≡ Some x → (id next : ℤ) (there : Row)
      → (list_all (holds (sees there next ∷ (Int id ∷ slot_values x) ∷ [])) more ≡ true)
      × (eval_all sets (sees there next ∷ (Int id ∷ slot_values x) ∷ []) ≡ Int id ∷ Int id ∷ name_values x.slot ++ use_values (change x.held)))
      → Steps (text, params) rows (record rows { slots = put_slot slot change rows.slots })
  slot_put fresh ids yields old new count holds_rows executed =
      let alone = lone (λ (row : SlotRow). row.slot) same_slot same_slots same_itself slot rows.slots once in
      let next = next_rowid (old.now.trees slots_tree) in
      let left = row_put _ _ _ _ _ slots_tree target 4 refl text terms more sets 6 at _ puts old new holds_rows.schema params
      (name_values slot ++ closed ∷ taken ∷ []) gives (simp (cast_null, cast_int, casts_closed, casts_taken))
      (λ id. simp (cast_int, casts_closed, casts_taken)) slot_values is_of_slot (changed slot change) (unchanged slot change) (new_row_of slot change)
      (λ id x. slots_conflict id next x slot closed taken) (λ id x. simp cast_int) rows.slots holds_rows.held.slots alone (λ there. ids there next)
      (λ none. ap (λ vs. name_values slot ++ vs) (fresh none)) (λ x is id there. let y = yields x is id next there in (
        y.0,
        y.1 ∙ ap (λ b. Int id ∷ Int id ∷ name_values x.slot ++ use_values (if b then change x.held else x.held)) (sym (found is_of_slot rows.slots x is).1),
      )) count executed in
      (on_slots holds_rows left.0 left.1, left.2)

  -- If an INSERT statement with an ON CONFLICT clause writes a row, the existing row meets the
  -- conditions of the clause.
  slot_allowed : ((there : Row) (next : ℤ) → column (sees there next) at ≡ rowid there) → (allows : SlotRow → Bool)
      → ((id next : ℤ) (there : Row) (x : SlotRow) → list_all (holds (sees there next ∷ (Int id ∷ slot_values x) ∷ [])) more ≡ allows x)
      → (old new : State) (count : ℕ) → HoldsRows old.now rows → Executes text params old new (Ok count) → 1 ≤ count
      → (x : SlotRow) → row_of slot rows.slots ≡ Some x → allows x ≡ true
  slot_allowed ids allows allowed old new count holds_rows executed some x is =
      let alone = lone (λ (row : SlotRow). row.slot) same_slot same_slots same_itself slot rows.slots once in
      let next = next_rowid (old.now.trees slots_tree) in
      row_allowed _ _ _ _ _ slots_tree target 4 refl text terms more sets 6 at _ puts old new holds_rows.schema params
      (name_values slot ++ closed ∷ taken ∷ []) gives (simp (cast_null, cast_int, casts_closed, casts_taken))
      (λ id. simp (cast_int, casts_closed, casts_taken)) slot_values is_of_slot (changed slot change) (unchanged slot change) (new_row_of slot change)
      (λ id x. slots_conflict id next x slot closed taken) (λ id x. simp cast_int) rows.slots holds_rows.held.slots alone (λ there. ids there next)
      allows (λ id there x. allowed id next there x) count executed some x is

-- Lemmas about the statement that closes a slot.

abbrev is_open : Term
is_open = op2 (Compare Eq Binary) (col 1 4) (lit (Int (pos 0)))

close_puts : PutsSlot CLOSE_SLOT.now (lit Null ∷ col 0 0 ∷ col 0 1 ∷ col 0 2 ∷ lit (Int (pos 1)) ∷ lit (Int (pos 0)) ∷ []) (is_open ∷ [])
    (col 1 0 ∷ col 1 0 ∷ col 1 1 ∷ col 1 2 ∷ col 1 3 ∷ lit (Int (pos 1)) ∷ col 1 5 ∷ []) 3
unfolding understood everything
close_puts = record { is = refl; plain = (refl, refl); aims = refl; by = refl }

abbrev pub close_use : SlotUse → SlotUse
close_use held = record held { closed = true }

-- The SQL condition for an open slot is true if and only if the slot is open.
open_is : (held : SlotUse) → (is_true (binary (Compare Eq Binary) (flag held.closed) (whole 0)) && true) ≡ not held.closed
open_is held = and-true _ ∙ whole_equal (truth held.closed) 0 ∙ no_truth held.closed

pub slot_closed : (rows : Rows) → AllPairs (λ (a : SlotRow) (b : SlotRow). a.slot ≢ b.slot) rows.slots → (slot : Slot)
    → (stored_slot_use slot rows.slots).closed ≡ false
    → Steps (CLOSE_SLOT.now, name_values slot) rows (record rows { slots = put_slot slot close_use rows.slots })
slot_closed rows once slot is_open =
    slot_put close_puts rows once slot (name_values slot) (whole 1) (whole 0) refl (cast_int (pos 1)) (cast_int (pos 0)) close_use (λ _. refl)
    (λ there next. refl) (λ x is id next there. (open_is x.held ∙ grind arith, refl))

-- If the statement that closes a slot writes a row, the slot was open.
pub slot_was_open : (rows : Rows) → AllPairs (λ (a : SlotRow) (b : SlotRow). a.slot ≢ b.slot) rows.slots → (slot : Slot) → (old new : State) (count : ℕ)
    → HoldsRows old.now rows → Executes CLOSE_SLOT.now (name_values slot) old new (Ok count) → 1 ≤ count → (stored_slot_use slot rows.slots).closed ≡ false
slot_was_open rows once slot old new count holds_rows executed some =
    by (row_of slot rows.slots) (slot_allowed close_puts rows once slot (name_values slot) (whole 1) (whole 0) refl (cast_int (pos 1)) (cast_int (pos 0))
    close_use (λ there next. refl) (λ row. not row.held.closed) (λ id next there row. open_is row.held) old new count holds_rows executed some)
  where
    by : (o : Option SlotRow) → ((x : SlotRow) → o ≡ Some x → not x.held.closed ≡ true)
        → (unwrap_or (option_map (λ (row : SlotRow). row.held) o) no_slot_use).closed ≡ false
    by None each = refl
    by (Some x) each = let was_open = each x refl in grind arith

-- Lemmas about the statement that opens a slot.

open_puts : PutsSlot OPEN_SLOT.now (lit Null ∷ col 0 0 ∷ col 0 1 ∷ col 0 2 ∷ lit (Int (pos 0)) ∷ lit (Int (pos 0)) ∷ []) []
    (col 1 0 ∷ col 1 0 ∷ col 1 1 ∷ col 1 2 ∷ col 1 3 ∷ lit (Int (pos 0)) ∷ col 1 5 ∷ []) 3
unfolding understood everything
open_puts = record { is = refl; plain = (refl, refl); aims = refl; by = refl }

abbrev pub open_use : SlotUse → SlotUse
open_use held = record held { closed = false }

pub slot_opened : (rows : Rows) → AllPairs (λ (a : SlotRow) (b : SlotRow). a.slot ≢ b.slot) rows.slots → (slot : Slot)
    → Steps (OPEN_SLOT.now, name_values slot) rows (record rows { slots = put_slot slot open_use rows.slots })
slot_opened rows once slot =
    slot_put open_puts rows once slot (name_values slot) (whole 0) (whole 0) refl (cast_int (pos 0)) (cast_int (pos 0)) open_use (λ _. refl)
    (λ there next. refl) (λ x is id next there. (refl, refl))

-- Lemmas about the statement that adds persons to a slot.

taken_puts : PutsSlot ADD_TAKEN.now (lit Null ∷ col 0 0 ∷ col 0 1 ∷ col 0 2 ∷ lit (Int (pos 0)) ∷ col 0 3 ∷ []) []
    (col 1 0 ∷ col 1 0 ∷ col 1 1 ∷ col 1 2 ∷ col 1 3 ∷ col 1 4 ∷ op2 (Arith Add) (col 1 5) (col 0 3) ∷ []) 4
unfolding understood everything
taken_puts = record { is = refl; plain = (refl, refl); aims = refl; by = refl }

abbrev pub take_use : (ℕ → ℕ) → SlotUse → SlotUse
take_use next held = record held { taken = next held.taken }

pub slot_taken : (rows : Rows) → AllPairs (λ (a : SlotRow) (b : SlotRow). a.slot ≢ b.slot) rows.slots → (slot : Slot) (persons : ℤ) (next : ℕ → ℕ)
    → let held : SlotUse = stored_slot_use slot rows.slots in (held ≡ no_slot_use → persons ≡ pos (next 0))
    → binary (Arith Add) (whole held.taken) (Int persons) ≡ whole (next held.taken)
    → Steps (ADD_TAKEN.now, name_values slot ++ Int persons ∷ []) rows (record rows { slots = put_slot slot (take_use next) rows.slots })
slot_taken rows once slot persons next fresh sum =
    let use_by : Option SlotRow → SlotUse = λ found. unwrap_or (option_map (λ (row : SlotRow). row.held) found) no_slot_use in
    slot_put taken_puts rows once slot (name_values slot ++ Int persons ∷ []) (whole 0) (Int persons) refl (cast_int (pos 0)) (cast_int persons)
    (take_use next) (λ none. ap (λ n. whole 0 ∷ Int n ∷ []) (fresh (ap use_by none))) (λ there id. refl)
    (λ x is id new there. (
      refl,
      ap (λ v. Int id ∷ Int id ∷ name_values x.slot ++ flag x.held.closed ∷ v ∷ [])
          (subst (λ (held : SlotUse). binary (Arith Add) (whole held.taken) (Int persons) ≡ whole (next held.taken)) (ap use_by is) sum),
    ))

-- Lemmas about the statement that stores an older root.

abbrev older_table : Table
older_table = record old_roots_table { tree = olders_tree }

abbrev older_target : Option (List ℕ)
older_target = Some (1 ∷ [])

olders_conflict : (id id' : ℤ) (row : OlderRow) (key : List ℕ) (older : OlderRoot)
    → conflicts older_target club_schema.indexes older_table (Int id' ∷ Text key ∷ older_root_values older) (Int id ∷ older_values row) ≡ bytes_eq row.key key
unfolding first_key
olders_conflict id id' row key older = rw (text_equal row.key key) (or-false _ ∙ and-true _)

put_puts : PutsRow old_roots_table.name old_roots_table.columns old_roots_table.uniques old_roots_table.checks old_roots_table.references olders_tree
    older_target 6 PUT_OLDER_ROOT.now (lit Null ∷ col 0 0 ∷ col 0 1 ∷ col 0 2 ∷ []) [] (col 1 0 ∷ col 1 0 ∷ col 1 1 ∷ col 0 1 ∷ col 0 2 ∷ [])
    4 3 (first_clause (command_of (understood club_schema PUT_OLDER_ROOT.now)))
unfolding understood everything
put_puts = record { is = refl; plain = (refl, refl); aims = refl; by = refl }

same_names : (a b : List ℕ) → bytes_eq a b ≡ true → a ≡ b
same_names a b same = (bytes_eq-Decides a b).0 same

itself : (a : List ℕ) → bytes_eq a a ≡ true
itself a = (bytes_eq-Decides a a).1 refl

module _ (key : List ℕ) (older : OlderRoot) where
  abbrev pub is_of : OlderRow → Bool
  is_of row = bytes_eq row.key key

  abbrev pub renewed : OlderRow → OlderRow
  renewed row = record row { older = if bytes_eq row.key key then older else row.older }

  -- The rows of older roots after the key's older root is inserted or updated.
  abbrev pub put_older : List OlderRow → List OlderRow
  put_older rows = put_among is_of renewed (record { key = key; older = older }) rows

  same_older : (row : OlderRow) → is_of row ≡ false → renewed row ≡ row
  same_older row fails = rw fails refl

  pub older_put : (name : List ℕ) (rows : List OlderRow) → older_by name (put_older rows) ≡ (if bytes_eq key name then Some older else older_by name rows)
  older_put name rows =
      by_put (λ (row : OlderRow). row.key) bytes_eq same_names itself key renewed (λ row. refl) (record { key = key; older = older }) refl
      (λ found. option_map (λ (row : OlderRow). row.older) found) (λ _. Some older)
      (λ row passes. ap (λ b. Some (if b then older else row.older)) passes) same_older refl name rows

  pub put_once : (rows : List OlderRow) → AllPairs (λ (a : OlderRow) (b : OlderRow). a.key ≢ b.key) rows
      → AllPairs (λ (a : OlderRow) (b : OlderRow). a.key ≢ b.key) (put_older rows)
  put_once = once_put (λ (row : OlderRow). row.key) bytes_eq same_names itself key renewed (λ row. refl) (record { key = key; older = older }) refl

pub older_represents : (rows : Rows) → AllPairs (λ (a : OlderRow) (b : OlderRow). a.key ≢ b.key) rows.olders → (key : List ℕ) (older : OlderRoot)
    → Steps (PUT_OLDER_ROOT.now, Text key ∷ older_root_values older) rows (record rows { olders = put_older key older rows.olders })
older_represents rows once key older old new count holds_rows executed =
    let params = Text key ∷ older_root_values older in
    let put = row_put _ _ _ _ _ olders_tree older_target 6 refl _ _ _ _ 4 3 _ put_puts old new holds_rows.schema params params refl
    (simp (cast_null, cast_int)) (λ id. simp cast_int) older_values (is_of key older) (renewed key older) (same_older key older)
    (record { key = key; older = older }) (λ id row. olders_conflict id (next_rowid (old.now.trees olders_tree)) row key older) (λ id row. simp cast_int)
    rows.olders holds_rows.held.olders (lone (λ (row : OlderRow). row.key) bytes_eq same_names itself key rows.olders once)
    (λ there. refl) (λ _. refl) (λ x is id there. (
      refl,
      ap (λ b. Int id ∷ Int id ∷ Text x.key ∷ older_root_values (if b then older else x.older)) (sym (found (is_of key older) rows.olders x is).1),
    )) count executed in
    (on_olders holds_rows put.0 put.1, put.2)

obeys : {db : Database} {rows : Rows} → HoldsRows db rows → Obeys club_schema db.trees
obeys {db = db} holds_rows = subst (λ s. Obeys s db.trees) holds_rows.schema holds_rows.database.obeys

not_true : (b : Bool) → not b ≡ true → b ≡ false
not_true b h = grind arith

rising_differ : (a b : ℤ) → value_cmp (Int a) (Int b) ≡ Less → differ (Int b) (Int a) ≡ true
unfolding binary
rising_differ a b less = grind (arith, value_cmp_total.antisymm)

module _ {X : Type 0} (values : X → Row) (places : List ℕ) (same : X → X → Bool)
    (tests : (id id' : ℤ) (a b : X) → agree plain places (Int id ∷ values a) places (Int id' ∷ values b) ≡ same a b) where
  abbrev Clashes : Row → Row → Bool
  Clashes row other = agree plain places other places row && differ (rowid other) (rowid row)

  unlike : (all ps : List (ℤ × X)) → ((q : ℤ × X) → Has ps q → Has all q) → Apart (λ q p. Below (id_row values q) (id_row values p)) ps
      → AllByRecursion (λ row. list_any (Clashes row) (map (id_row values) all) ≡ false) (map (id_row values) all)
      → Apart (λ (q p : ℤ × X). same p.1 q.1 ≡ false) ps
  unlike all [] within rising none = tt
  unlike all (q ∷ ps) within rising none = (each ps rising.0 (λ p has. within p (inr has)), unlike all ps (λ p has. within p (inr has)) rising.1 none)
    where
      each : (rest : List (ℤ × X)) → AllByRecursion (λ p. Below (id_row values q) (id_row values p)) rest → ((p : ℤ × X) → Has rest p → Has all p)
          → AllByRecursion (λ (p : ℤ × X). same p.1 q.1 ≡ false) rest
      each [] below in_all = tt
      each (p ∷ rest) below in_all =
          let never = all_has _ (map (id_row values) all) (id_row values q) none (mapped_has (id_row values) all q (within q (inl refl))) in
          let clash = false_from_ne_true (Clashes (id_row values q) (id_row values p)) (λ clashes. true≢false (sym (some_from (Clashes (id_row values q))
          (map (id_row values) all) (id_row values p) (mapped_has (id_row values) all p (in_all p (inl refl))) clashes) ∙ never)) in
          let apart : (same p.1 q.1 && true) ≡ false = rw (tests p.0 q.0 p.1 q.1, rising_differ q.0 p.0 below.0) at clash in
          (sym (and-true (same p.1 q.1)) ∙ apart, each rest below.1 (λ r has. in_all r (inr has)))

  unlike_last : (rows : List Row) (xs : List X) (x : X) (rest : Row → Bool) → Holds values rows (xs ++ x ∷ [])
      → AllByRecursion (λ row. (not (list_any (Clashes row) rows) && rest row) ≡ true) rows → AllByRecursion (λ y. same x y ≡ false) xs
  unlike_last rows xs x rest held obeyed =
      let it = paired values rows (xs ++ x ∷ []) held.same in
      let R : X → X → Type 0 = λ a b. same b a ≡ false in
      let none = all_weaker _ (λ row. list_any (Clashes row) rows ≡ false) (λ row h. not_true _ (and_parts _ _ h).0) rows obeyed in
      let apart = unlike it.pairs it.pairs (λ q has. has) (ascending_from_map Below (id_row values) it.pairs (subst IsTable it.rows_are held.rising))
      (subst (λ rs. AllByRecursion (λ row. list_any (Clashes row) rs ≡ false) rs) it.rows_are none) in
      apart_last R xs x (subst (Apart R) (sym it.xs_are) (ascending-map R (λ q. q.1) it.pairs apart))

any_zip : {X : Type 0} (values : X → Row) (hit : Row → Bool) (p : X → Bool) → ((id : ℤ) (x : X) → hit (Int id ∷ values x) ≡ p x) → (rows : List Row)
    (xs : List X) → AllZip (λ row x. IsRowOf (values x) row) rows xs → list_any hit rows ≡ list_any p xs
any_zip values hit p tested rows xs same =
    any_filtered_is hit rows ∙ ap (λ n. not (n == 0)) (as_many values hit p tested rows xs same) ∙ sym (any_filtered_is p xs)

named_among : {X : Type 0} (name : X → List ℕ) (n : List ℕ) (xs : List X) → list_any (λ x. bytes_eq (name x) n) xs ≡ true → Contains (map name xs) n
named_among name n xs any =
    let it = some_has (λ x. bytes_eq (name x) n) xs any in
    contains_had (map name xs) n (subst (Has (map name xs)) ((bytes_eq-Decides (name it.0) n).0 it.2) (mapped_has name xs it.0 it.1))

all_zip : {X : Type 0} (values : X → Row) (P : X → Type 0) (Q : Row → Type 0) → ((id : ℤ) (x : X) → Q (Int id ∷ values x) → P x) → (rows : List Row)
    (xs : List X) → AllZip (λ row x. IsRowOf (values x) row) rows xs → AllByRecursion Q rows → AllByRecursion P xs
all_zip values P Q gives rows xs same all =
    let it = paired values rows xs same in
    subst (AllByRecursion P) (sym it.xs_are) (all-map P (λ q. q.1) it.pairs (all_weaker (λ q. Q (id_row values q)) _ (λ q h. gives q.0 q.1 h) it.pairs
    (all_from_map Q (id_row values) it.pairs (subst (AllByRecursion Q) it.rows_are all))))

pub members_apart : {db : Database} (rows : Rows) (x : MemberRow) → HoldsRows db (record rows { members = rows.members ++ x ∷ [] })
    → AllByRecursion (λ (y : MemberRow). bytes_eq x.member.name y.member.name ≡ false) rows.members
unfolding first_key
members_apart {db = db} rows x holds_rows =
    unlike_last member_values (1 ∷ []) (λ (a : MemberRow) (b : MemberRow). bytes_eq a.member.name b.member.name)
    (λ id id' a b. and-true _ ∙ text_equal a.member.name b.member.name) (db.trees members_tree) rows.members x _ holds_rows.held.members
    ((obeys holds_rows).rules Unique).1.0

pub facilities_apart : {db : Database} (rows : Rows) (x : Facility) → HoldsRows db (record rows { facilities = rows.facilities ++ x ∷ [] })
    → AllByRecursion (λ (y : Facility). bytes_eq x.name y.name ≡ false) rows.facilities
unfolding first_key
facilities_apart {db = db} rows x holds_rows =
    unlike_last facility_values (1 ∷ []) (λ (a : Facility) (b : Facility). bytes_eq a.name b.name) (λ id id' a b. and-true _ ∙ text_equal a.name b.name)
    (db.trees facilities_tree) rows.facilities x _ holds_rows.held.facilities ((obeys holds_rows).rules Unique).1.1.0

pub keys_apart : {db : Database} (rows : Rows) (x : Key) → HoldsRows db (record rows { keys = rows.keys ++ x ∷ [] })
    → AllByRecursion (λ (y : Key). bytes_eq x.name y.name ≡ false) rows.keys
unfolding first_key
keys_apart {db = db} rows x holds_rows =
    unlike_last key_values (1 ∷ []) (λ (a : Key) (b : Key). bytes_eq a.name b.name) (λ id id' a b. and-true _ ∙ text_equal a.name b.name)
    (db.trees keys_tree) rows.keys x _ holds_rows.held.keys ((obeys holds_rows).rules Unique).1.1.1.0

pub bookings_apart : {db : Database} (rows : Rows) (x : Booking) → HoldsRows db (record rows { bookings = rows.bookings ++ x ∷ [] })
    → AllByRecursion (λ (y : Booking). (bytes_eq x.key y.key && x.number == y.number) ≡ false) rows.bookings
unfolding first_key
bookings_apart {db = db} rows x holds_rows =
    unlike_last booking_values (1 ∷ 2 ∷ []) (λ (a : Booking) (b : Booking). bytes_eq a.key b.key && a.number == b.number)
    (λ id id' a b. rw (text_equal a.key b.key, whole_equal a.number b.number) (ap (λ c. bytes_eq a.key b.key && c) (and-true _)))
    (db.trees bookings_tree) rows.bookings x _ holds_rows.held.bookings ((obeys holds_rows).rules Unique).1.1.1.1.1.0

module _ {db : Database} {rows : Rows} (holds_rows : HoldsRows db rows) where
  pub key_members : AllByRecursion (λ (k : Key). Contains (map (λ (row : MemberRow). row.member.name) rows.members) k.member) rows.keys
  unfolding first_key same_name joined
  key_members =
      all_zip key_values _ _ (λ id k h. named_among (λ (row : MemberRow). row.member.name) k.member rows.members
      (sym (any_zip member_values _ (λ (row : MemberRow). bytes_eq row.member.name k.member) (λ id' row. and-true _ ∙ text_equal row.member.name k.member)
      (db.trees members_tree) rows.members holds_rows.held.members.same) ∙ (and_parts _ _ h).0)) (db.trees keys_tree) rows.keys
      holds_rows.held.keys.same ((obeys holds_rows).rules ForeignKey).1.1.1.0

  pub slot_facilities : AllByRecursion (λ (row : SlotRow). Contains (map (λ (f : Facility). f.name) rows.facilities) row.slot.facility) rows.slots
  unfolding first_key same_name joined
  slot_facilities =
      all_zip slot_values _ _ (λ id row h. named_among (λ (f : Facility). f.name) row.slot.facility rows.facilities
      (sym (any_zip facility_values _ (λ (f : Facility). bytes_eq f.name row.slot.facility) (λ id' f. and-true _ ∙ text_equal f.name row.slot.facility)
      (db.trees facilities_tree) rows.facilities holds_rows.held.facilities.same) ∙ (and_parts _ _ h).0)) (db.trees slots_tree) rows.slots
      holds_rows.held.slots.same ((obeys holds_rows).rules ForeignKey).1.1.1.1.0

  pub booking_facilities : AllByRecursion (λ (b : Booking). Contains (map (λ (f : Facility). f.name) rows.facilities) b.slot.facility) rows.bookings
  unfolding first_key same_name joined
  booking_facilities =
      all_zip booking_values _ _ (λ id b h. named_among (λ (f : Facility). f.name) b.slot.facility rows.facilities
      (sym (any_zip facility_values _ (λ (f : Facility). bytes_eq f.name b.slot.facility) (λ id' f. and-true _ ∙ text_equal f.name b.slot.facility)
      (db.trees facilities_tree) rows.facilities holds_rows.held.facilities.same) ∙ (and_parts _ _ (and_parts _ _ h).1).0)) (db.trees bookings_tree)
      rows.bookings holds_rows.held.bookings.same ((obeys holds_rows).rules ForeignKey).1.1.1.1.1.0
