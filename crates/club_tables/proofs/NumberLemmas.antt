-- Lemmas about the statements that charge a member or set a facility's numbers, and about the
-- query for the highest number of persons in a slot.
use Rattle.std.proofs.lemmas.List.{Folds.fold-map, Sorted.{Contains-permutation, IsPermutation-sym}, Sums.fold-append}
use Rattle.club_tables.proofs.Common.{◌≡◌, ◌≤◌, ◌+◌, ◌<◌, ℕ, Bool, true, List, [], ◌∷◌, length, get_or, take, map, refl, sym, ap, ◌∙◌, subst, filter, fold, max}
use Rattle.club_tables.proofs.Common.{sum_by, bytes_eq, and_parts, inl, inr, arith, everything, Text, column, select, is_given, inner, end, col, codes}
use Rattle.club_tables.proofs.Common.{IsPermutation, All-get_or, Has, has_kept, has_filtered, has_contained, contains_had, club_schema, Ghosts, Held, Club}
use Rattle.club_tables.proofs.Common.{Booking, Slot, SlotRow, persons_of, is_in, taken_in, is_at, most_taken_in, slot_values, slots_tree, whole, whole_in}
use Rattle.club_tables.proofs.Common.{IsStoredAs, Rows, IsTakenRow, IsMostIn, most_in, TAKEN, and-true, understood, take_more, ◌-◌, sum_by-cons}
use Rattle.club_tables.proofs.Common.{sum_by-IsPermutation, cost_of, AreCosts, cost_values, cost_in, IsCostIn, IsCostRow, places_limit, ℤ, ◌&&◌, list_all, Int}
use Rattle.club_tables.proofs.Common.{Binary, Arith, Compare, Add, Eq, binary, Term, op2, holds, Key, MemberRow, member_values, key_values, members_tree}
use Rattle.club_tables.proofs.Common.{keys_tree, is_true, nat_le, Facility, ◌==◌, name_values, facility_values, facilities_tree, flat_map, Le, CHARGE, ◌≢◌}
use Rattle.club_tables.proofs.Common.{false, not, Some, find, bytes_eq-Decides, nat_tests, AllPairs, FitsClub, ReplaceNumbers, facility_with_numbers}
use Rattle.club_tables.proofs.Common.{SET_NUMBERS, op1, unary, Not, nat_lt, Contains, all_from, IsFacility, Gt, are_limits, numbers_values, value_cmp-Int}
use Rattle.club_tables.proofs.JoinLemmas.{counted_some, counts_elements, count_in, with_counts, pairs_in, passes_both, shown_both, answered_counted_both}
use Rattle.club_tables.proofs.JoinLemmas.{as_many_pairs, pair_found, pair_counts, is_counted, passes, shown, with_count, answered_counted}
use Rattle.club_tables.proofs.ChangeLemmas.{AreKeysOnce, StoresKey, name_of, AreNamedOnce, StoresMember, used_row, casts_member, owner_tests, owns, used_terms}
use Rattle.club_tables.proofs.{ChangeLemmas.{whole_to, is_named, key_owned, low_named, owned_key, has_owner, mapped_holds}, SelectLemmas.text_equal}
use Rattle.club_tables.proofs.SelectLemmas.{on_members, Steps, WhenRan, whole_equal, as_many, found, on_facilities, none_pass, contains_counts}
use Rattle.club_tables.proofs.{UpdateLemmas.{FindsOne, one_found, one_changed, finds_by, cast_int}, MemberLemmas.{same_slots, both_tests, one_named}}
use Rattle.club_tables.proofs.{AddLemmas.{member_table, facility_table}, PutLemmas.{row_taken, slot_taken_by}, CrashLemmas.{Asks, Shows, shown_by}}
use Rattle.sqlite_value.specs.Order.{Row}

module _ {X : Type 0} (f : X → ℕ) where
  abbrev pub greatest : ℕ → List X → ℕ
  greatest n xs = fold (λ most x. max most (f x)) n xs

  from_first : (n : ℕ) (xs : List X) → n ≤ greatest n xs
  from_first n [] = omega arith
  from_first n (x ∷ xs) = omega (arith, from_first (max n (f x)) xs)

  pub each_below : (n : ℕ) (xs : List X) (x : X) → Has xs x → f x ≤ greatest n xs
  each_below n [] x has = absurd has
  each_below n (y ∷ xs) x (inl is) = omega (arith, ap f is, from_first (max n (f y)) xs)
  each_below n (y ∷ xs) x (inr has) = each_below (max n (f y)) xs x has

  pub below_all : (n most : ℕ) (xs : List X) → n ≤ most → ((x : X) → Has xs x → f x ≤ most) → greatest n xs ≤ most
  below_all n most [] low each = low
  below_all n most (x ∷ xs) low each = below_all (max n (f x)) most xs (omega (arith, low, each x (inl refl))) (λ y has. each y (inr has))

  pub permuted : (n : ℕ) (xs ys : List X) → IsPermutation xs ys → greatest n xs ≡ greatest n ys
  permuted n xs ys same =
      let has = λ (x : X) (h : Has xs x). has_contained ys x (Contains-permutation xs ys x same (contains_had xs x h)) in
      let had = λ (x : X) (h : Has ys x). has_contained xs x (Contains-permutation ys xs x (IsPermutation-sym xs ys same) (contains_had ys x h)) in
      let one = below_all n (greatest n ys) xs (from_first n ys) (λ x h. each_below n ys x (has x h)) in
      let two = below_all n (greatest n xs) ys (from_first n xs) (λ x h. each_below n xs x (had x h)) in
      omega (arith, one, two)

module _ (club : Club) (rows : Rows) (stored : IsStoredAs club rows) (facility : List ℕ) where
  abbrev is_of : SlotRow → Bool
  is_of row = bytes_eq row.slot.facility facility

  abbrev shown_taken : SlotRow → Row
  shown_taken row = whole row.held.taken ∷ []

  abbrev persons : SlotRow → ℕ
  persons row = row.held.taken

  abbrev booked : Booking → ℕ
  booked b = taken_in b.slot club.bookings

  abbrev most : ℕ
  most = most_taken_in facility club.bookings

  few_in : (slot : Slot) → bytes_eq slot.facility facility ≡ true → taken_in slot club.bookings ≤ most
  few_in slot of = by (filter (is_in slot) club.bookings) refl
    where
      by : (bs : List Booking) → filter (is_in slot) club.bookings ≡ bs → taken_in slot club.bookings ≤ most
      by [] none = let zero : taken_in slot club.bookings ≡ 0 = ap (sum_by persons_of) none in omega (arith, zero)
      by (b ∷ bs) some =
          let it = has_filtered (is_in slot) club.bookings b (rw some (inl refl)) in
          let same = same_slots b.slot slot (and_parts _ _ it.1).1 in
          let at = has_kept (is_at facility) club.bookings b it.0 (ap (λ (s : Slot). bytes_eq s.facility facility) same ∙ of) in
          subst (λ (s : Slot). taken_in s club.bookings ≤ most) same (each_below booked 0 (filter (is_at facility) club.bookings) b at)

  few_by : (slot : Slot) → bytes_eq slot.facility facility ≡ true → taken_in slot club.bookings ≤ greatest persons 0 (filter is_of rows.slots)
  few_by slot of = elim (slot_taken_by club rows stored slot) [
    | inl none ↦ omega (arith, none)
    | inr it ↦ subst (λ n. n ≤ greatest persons 0 (filter is_of rows.slots)) it.3
        (each_below persons 0 (filter is_of rows.slots) it.0 (has_kept is_of rows.slots it.0 it.1 (ap (λ (s : Slot). bytes_eq s.facility facility) it.2 ∙ of)))
  ]

  most_by_rows : greatest persons 0 (filter is_of rows.slots) ≡ most
  most_by_rows =
      let one = below_all persons 0 most (filter is_of rows.slots) (omega arith) (λ row has.
      let it = has_filtered is_of rows.slots row has in
      subst (λ n. n ≤ most) (sym (row_taken club rows stored row it.0)) (few_in row.slot it.1)) in
      let two = below_all booked 0 (greatest persons 0 (filter is_of rows.slots)) (filter (is_at facility) club.bookings) (omega arith) (λ b has.
      few_by b.slot (has_filtered (is_at facility) club.bookings b has).1) in
      omega (arith, one, two)

  pub most_by_answer : (answer : List Row) → IsPermutation (map shown_taken (filter is_of rows.slots)) answer → most_in answer ≡ most
  most_by_answer answer same =
      let value = λ (row : Row). whole_in (column row 0) in
      sym (permuted value 0 (map shown_taken (filter is_of rows.slots)) answer same)
      ∙ fold-map (λ n row. max n (whole_in (column row 0))) shown_taken 0 (filter is_of rows.slots) ∙ most_by_rows

pub taken_shown : {S : Type 0} (g : Ghosts S) (old : Held S) (facility : List ℕ) → Shows g old (TAKEN.now, Text facility ∷ [])
    (λ club rows. most_in rows ≡ most_taken_in facility club.bookings)
unfolding understood everything
taken_shown g old facility =
    shown_by (record { is = refl; plain = (refl, refl); unlisted = refl }) slot_values (λ row. bytes_eq row.slot.facility facility)
    (λ row. whole row.held.taken ∷ []) (λ id row.
    and-true _ ∙ text_equal row.slot.facility facility) (λ id row. refl) (λ club tables. (
      tables.rows.slots,
      tables.holds_rows.held.slots,
      most_by_answer club tables.rows tables.storage facility,
    ))

pub most_more : (rows : List Row) (at : ℕ) (row : Row) → at < length rows → row ≡ get_or rows at row
    → most_in (take (at + 1) rows) ≡ max (most_in (take at rows)) (whole_in (column row 0))
most_more rows at row low is =
    ap most_in (take_more rows at row low) ∙ fold-append (λ n r. max n (whole_in (column r 0))) 0 (take at rows) (get_or rows at row ∷ [])
    ∙ ap (λ r. max (most_in (take at rows)) (whole_in (column r 0))) (sym is)

pub none_taken : (rows : List Row) (at : ℕ) (row : Row) → at < length rows → row ≡ get_or rows at row → (n : ℕ)
    → ((taken : ℕ) → ¬ ((taken ≤ places_limit) × (column row 0 ≡ whole taken))) → ¬ (IsMostIn rows n)
none_taken rows at row low is n none taken =
    let here = All-get_or IsTakenRow rows at row low taken.0 in
    none here.0 (here.1, ap (λ r. column r 0) is ∙ here.2)

pub cost_in_is : (row : Row) (cost : ℕ) → IsCostIn row cost → cost_in row ≡ cost
cost_in_is row cost h = let low : h.charge - h.refund ≡ cost = omega arith in rw (h.charge_column, h.refund_column) low

pub costs_are : (bookings : List Booking) (rows : List Row) → IsPermutation (map cost_values bookings) rows → sum_by cost_in rows ≡ sum_by cost_of bookings
costs_are bookings rows same = sum_by-IsPermutation cost_in _ rows same ∙ through bookings
  where
    through : (bs : List Booking) → sum_by cost_in (map cost_values bs) ≡ sum_by cost_of bs
    through [] = refl
    through (b ∷ bs) = sum_by-cons cost_in (cost_values b) (map cost_values bs) ∙ ap (λ n. cost_of b + n) (through bs) ∙ sym (sum_by-cons cost_of b bs)

module _ (rows : List Row) (at : ℕ) (row : Row) (low : at < length rows) (is : row ≡ get_or rows at row) (n : ℕ) where
  pub no_costs : ((cost : ℕ) → ¬ (IsCostIn row cost)) → ¬ (AreCosts rows n)
  no_costs none costs =
      let here = All-get_or IsCostRow rows at row low costs.0 in
      none here.0 (subst (λ r. IsCostIn r here.0) (sym is) here.1)

abbrev place_tests : List Term
place_tests =
    op2 (Compare Eq Binary) (col 4 1) (col 0 3) ∷ op2 (Compare Eq Binary) (col 3 1) (col 0 3) ∷ op2 (Compare Eq Binary) (col 3 2) (col 0 4)
    ∷ op2 (Compare Eq Binary) (col 3 3) (col 0 5) ∷ op2 (Compare Le Binary) (col 3 5) (col 4 3) ∷ []

abbrev charge_tests : List Term
charge_tests = is_given 1 0 ∷ op2 (Compare Le Binary) (op2 (Arith Add) (col 1 4) (col 0 1)) (col 1 2) ∷ col 2 0 ∷ col 3 0 ∷ []

module _ (rows : Rows) (once : AreNamedOnce rows.members) (name : List ℕ) (points : ℤ) (key : List ℕ) (slot : Slot) where
  abbrev pub charge_params : Row
  charge_params = Text name ∷ Int points ∷ Text key ∷ name_values slot

  abbrev owns_it : Key → Bool
  owns_it = owns rows once name points key

  abbrev is_known : Bool
  is_known = has_owner rows once name points key

  -- The row is the slot's row, and the facility is the slot's facility. The row's number of
  -- persons is at most the facility's number of places.
  abbrev pub has_room : SlotRow → Facility → Bool
  has_room row facility =
      bytes_eq facility.name slot.facility && (bytes_eq row.slot.facility slot.facility && (row.slot.day == slot.day && (row.slot.hour == slot.hour
      && nat_le row.held.taken facility.places)))

  abbrev pub pays : MemberRow → Bool
  pays row = is_true (binary (Compare Le Binary) (binary (Arith Add) (whole row.used) (Int points)) (whole row.member.credited))

  abbrev is_placed : Bool
  is_placed = is_counted (length (flat_map (λ row. filter (has_room row) rows.facilities) rows.slots))

  abbrev is_charged : MemberRow → Bool
  is_charged row = is_named rows once name row && (pays row && (is_known && (is_placed && true)))

  charge_finds : WhenRan (CHARGE.now, charge_params) rows (λ old new count. FindsOne member_values is_charged (is_named rows once name) rows.members
      (shown_both charge_params owner_tests place_tests charge_tests used_terms (old.now.trees keys_tree) (old.now.trees slots_tree)
      (old.now.trees facilities_tree)) old new member_table count)
  unfolding understood everything
  charge_finds =
      finds_by 1
      (λ trees. shown_both charge_params owner_tests place_tests charge_tests used_terms (trees keys_tree) (trees slots_tree) (trees facilities_tree))
      (λ trees. passes_both charge_params owner_tests place_tests charge_tests used_terms (trees keys_tree) (trees slots_tree) (trees facilities_tree))
      (record { is = refl; plain = (refl, refl) }) refl (λ db holds_rows. holds_rows.held.members) (λ db holds_rows id member.
      let as_row : Row = Int id ∷ member_values member in
      let held = holds_rows.held in
      let facilities = db.trees facilities_tree in
      let known : count_in charge_params owner_tests charge_tests used_terms (db.trees keys_tree) as_row ≡ length (filter owns_it rows.keys) =
      counts_elements charge_params owner_tests charge_tests used_terms key_values owns_it
      (λ id other k. both_tests _ _ _ _ (text_equal k.name key) (text_equal k.member name)) (db.trees keys_tree) rows.keys held.keys as_row in
      let roomy : (id id' : ℤ) (row : SlotRow) (facility : Facility) → list_all (holds (charge_params ∷ [] ∷ [] ∷ (Int id ∷ slot_values row)
      ∷ (Int id' ∷ facility_values facility) ∷ [])) place_tests ≡ has_room row facility = λ id id' row facility.
      rw (
        text_equal facility.name slot.facility,
        text_equal row.slot.facility slot.facility,
        whole_equal row.slot.day slot.day,
        whole_equal row.slot.hour slot.hour,
        whole_to row.held.taken facility.places,
        and-true (nat_le row.held.taken facility.places),
      ) refl in
      let placed : (n : ℕ) → pairs_in charge_params owner_tests place_tests charge_tests used_terms (db.trees slots_tree) facilities n as_row
      ≡ length (flat_map (λ r. filter (has_room r) rows.facilities) rows.slots) = λ n.
      as_many_pairs slot_values (λ a b. list_all (holds (charge_params ∷ [] ∷ [] ∷ a ∷ b ∷ [])) place_tests) has_room facilities rows.facilities
      (λ id r. as_many facility_values _ (has_room r) (λ id' f. roomy id id' r f) facilities rows.facilities held.facilities.same)
      (db.trees slots_tree) rows.slots held.slots.same in
      ap (λ n. list_all (holds (with_counts charge_params owner_tests place_tests charge_tests used_terms n
      (pairs_in charge_params owner_tests place_tests charge_tests used_terms (db.trees slots_tree) facilities n as_row) as_row)) charge_tests) known
      ∙ ap (λ m. list_all (holds (with_counts charge_params owner_tests place_tests charge_tests used_terms (length (filter owns_it rows.keys)) m
      as_row)) charge_tests) (placed (length (filter owns_it rows.keys)))
      ∙ ap (λ b. b && (pays member && (is_known && (is_placed && true)))) (text_equal (name_of member) name))
      (answered_counted_both charge_params owner_tests place_tests charge_tests used_terms members_tree keys_tree slots_tree facilities_tree)
      (λ row passes. (and_parts (is_named rows once name row) _ passes).0) (low_named rows once name)

  pub record Charged : Type 0 where
    pub row : MemberRow
    pub stores : StoresMember name rows.members row
    pub pays_it : pays row ≡ true
    pub owner : Key
    pub known : StoresKey key rows.keys owner
    pub own : owner.member ≡ name
    pub at : SlotRow
    pub among : Has rows.slots at
    pub facility : Facility
    pub located : Has rows.facilities facility
    pub room : has_room at facility ≡ true

  pub charge_found : AreKeysOnce rows.keys → WhenRan (CHARGE.now, charge_params) rows (λ old new count. 1 ≤ count → Charged)
  charge_found unique old new count holds_rows ran some =
      let it = one_found (charge_finds old new count holds_rows ran) some in
      let paid = and_parts (pays it.0) _ (and_parts (is_named rows once name it.0) _ it.2).1 in
      let owned = and_parts is_known _ paid.1 in
      let one = owned_key rows once name points key unique owned.0 in
      let pair = pair_found has_room rows.slots rows.facilities
      (grind (arith, (and_parts is_placed true owned.1).0)) in
      record {
        row = it.0;
        stores = it.1;
        pays_it = paid.0;
        owner = one.0;
        known = one.1;
        own = one.2;
        at = pair.0;
        among = pair.1;
        facility = pair.2;
        located = pair.3;
        room = pair.4;
      }

  pub member_charged : (it : Charged) → (next : ℕ → ℕ) → binary (Arith Add) (whole it.row.used) (Int points) ≡ whole (next it.row.used)
      → Steps (CHARGE.now, charge_params) rows (record rows { members = map (used_row name next) rows.members })
  member_charged it next sum old new count holds_rows ran =
      let placed = counted_some (flat_map (λ row. filter (has_room row) rows.facilities) rows.slots)
      (pair_counts has_room rows.slots rows.facilities it.at it.facility it.among it.located it.room) in
      one_changed (charge_finds old new count holds_rows ran) it.row it.stores
      (rw (
        key_owned rows once name points key it.owner it.known it.own,
        placed,
        it.pays_it,
        (found (is_named rows once name) rows.members it.row
            it.stores).1,
      ) refl)
      (used_row name next) (λ row fails. rw fails refl) (λ id passes. rw (passes, sum) refl) casts_member (λ wrote held. on_members holds_rows wrote held)

abbrev numbers_terms : List Term
numbers_terms = col 1 0 ∷ col 1 0 ∷ col 1 1 ∷ col 1 2 ∷ col 0 1 ∷ col 0 2 ∷ col 0 3 ∷ col 0 4 ∷ []

abbrev crowd_tests : List Term
crowd_tests = op2 (Compare Eq Binary) (col 2 1) (col 0 0) ∷ op2 (Compare Gt Binary) (col 2 5) (col 0 1) ∷ []

abbrev numbers_tests : List Term
numbers_tests = is_given 1 0 ∷ op1 Not (col 2 0) ∷ []

-- The row belongs to a slot of this facility, and the slot has more persons than this number of
-- places.
abbrev pub crowds : List ℕ → ℕ → SlotRow → Bool
crowds name places row = bytes_eq row.slot.facility name && nat_lt places row.held.taken

-- At least one slot of the facility has more persons than this number of places.
abbrev pub is_crowded : List ℕ → ℕ → List SlotRow → Bool
is_crowded name places slots = is_counted (length (filter (crowds name places) slots))

module _ (rows : Rows) (once : AllPairs (λ (a : Facility) (b : Facility). a.name ≢ b.name) rows.facilities) (name : List ℕ) (places price opens shuts : ℕ) where
  abbrev has_name : Facility → Bool
  has_name f = bytes_eq f.name name

  abbrev params : Row
  params = numbers_values name places price opens shuts

  abbrev is_renumbered : Facility → Bool
  is_renumbered f = has_name f && not (is_crowded name places rows.slots)

  pub numbers_finds : WhenRan (SET_NUMBERS.now, params) rows (λ old new count. FindsOne facility_values is_renumbered has_name rows.facilities
      (shown params crowd_tests numbers_tests numbers_terms (old.now.trees slots_tree)) old new facility_table count)
  unfolding understood everything binary unary
  numbers_finds =
      finds_by 2 (λ trees. shown params crowd_tests numbers_tests numbers_terms (trees slots_tree))
      (λ trees. passes params crowd_tests numbers_tests numbers_terms (trees slots_tree)) (record { is = refl; plain = (refl, refl) }) refl
      (λ db holds_rows. holds_rows.held.facilities) (λ db holds_rows id f.
      ap (λ n. list_all (holds (with_count params crowd_tests numbers_tests numbers_terms n (Int id ∷ facility_values f))) numbers_tests)
      (counts_elements params crowd_tests numbers_tests numbers_terms slot_values (crowds name places)
      (λ id row s. both_tests _ _ _ _ (text_equal s.slot.facility name) (grind (arith, nat_tests, value_cmp-Int))) (db.trees slots_tree) rows.slots
      holds_rows.held.slots (Int id ∷ facility_values f)) ∙ both_tests _ _ _ _ (text_equal f.name name) (grind arith))
      (answered_counted params crowd_tests numbers_tests numbers_terms facilities_tree slots_tree) (λ f passes. (and_parts (has_name f) _ passes).0)
      (one_named (λ (f : Facility). f.name) name rows.facilities once)

  pub facility_renumbered : (f : Facility) → find has_name rows.facilities ≡ Some f → not (is_crowded name places rows.slots) ≡ true
      → Steps (SET_NUMBERS.now, params) rows (record rows { facilities = map (facility_with_numbers name places price opens shuts) rows.facilities })
  facility_renumbered f is roomy old new count holds_rows ran =
      one_changed (numbers_finds old new count holds_rows ran) f is (rw ((found has_name rows.facilities f is).1, roomy) refl)
      (facility_with_numbers name places price opens shuts) (λ f fails. rw fails refl) (λ id passes. rw passes refl) (λ id f. simp cast_int)
      (λ wrote held. on_facilities holds_rows wrote held)

module _ (club : Club) (rows : Rows) (stored : IsStoredAs club rows) (name : List ℕ) (places : ℕ) where
  pub few_by_rows : not (is_crowded name places rows.slots) ≡ true → (slot : Slot) → slot.facility ≡ name → taken_in slot club.bookings ≤ places
  few_by_rows roomy slot of = elim (slot_taken_by club rows stored slot) [
    | inl none ↦ omega (arith, none)
    | inr it ↦ by it.0 it.1 ((bytes_eq-Decides it.0.slot.facility name).1 (ap (λ (s : Slot). s.facility) it.2 ∙ of)) it.3
  ]
    where
      by : (row : SlotRow) → Has rows.slots row → bytes_eq row.slot.facility name ≡ true → row.held.taken ≡ taken_in slot club.bookings
          → taken_in slot club.bookings ≤ places
      by row has named taken =
          let counts = contains_counts (crowds name places) rows.slots row (contains_had rows.slots row has) in
          grind (arith, nat_tests, counts, counted_some (filter (crowds name places) rows.slots))

  pub few_in_rows : ((slot : Slot) → slot.facility ≡ name → taken_in slot club.bookings ≤ places) → not (is_crowded name places rows.slots) ≡ true
  few_in_rows few =
      let none : filter (crowds name places) rows.slots ≡ [] =
      none_pass (crowds name places) rows.slots (all_from (λ (row : SlotRow). crowds name places row ≡ false) rows.slots (λ row has.
      by row has)) in
      rw none refl
    where
      by : (row : SlotRow) → Has rows.slots row → crowds name places row ≡ false
      by row has = grind (arith, nat_tests, bytes_eq-Decides, row_taken club rows stored row has, few row.slot)

module _ (club : Club) (name : List ℕ) (places price opens shuts : ℕ) (fits : FitsClub (ReplaceNumbers name places price opens shuts) club) where
  abbrev facility : Facility
  facility = fits.carries.0

  abbrev edit : Facility → Facility
  edit = facility_with_numbers name places price opens shuts

  there : Contains club.facilities facility × (bytes_eq facility.name name ≡ true)
  there = found (λ (f : Facility). bytes_eq f.name name) club.facilities facility fits.carries.1

  pub few_if_fits : (slot : Slot) → slot.facility ≡ name → taken_in slot club.bookings ≤ places
  few_if_fits slot of =
      let low = mapped_holds (λ (f : Facility). (s : Slot) → s.facility ≡ f.name → taken_in s club.bookings ≤ f.places) edit club.facilities facility
      fits.sound.places there.0 slot (of ∙ sym ((bytes_eq-Decides facility.name name).0 there.1)) in
      grind (arith, there.1)

  pub numbers_if_fits : are_limits places price opens shuts ≡ true
  numbers_if_fits =
      let row = mapped_holds IsFacility edit club.facilities facility fits.sound.rows.facilities there.0 in
      grind (arith, nat_tests, there.1)
