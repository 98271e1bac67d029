-- Lemmas about the queries that read a row by its primary key, the bookings of a key, a member or
-- a day, and about the member who made a booking.
use Rattle.std.{proofs.{Common.int_cmp, lemmas.{List.Kept.AllPairs-filter, Map.Lookups.{exact_bytes, exact_unsigned}}}, specs.Cmp.Lexicographic.slice_cmp}
use Rattle.club_tables.proofs.Common.{◌≡◌, ℕ, ◌≤◌, List, [], ◌∷◌, length, map, codes, subst, Bool, true, ◌&&◌, ◌≢◌, refl, sym, ap, ◌∙◌, arith, pos, not, ◌==◌}
use Rattle.club_tables.proofs.Common.{filter, find, option_map, AllPairs, IsPermutation, length-map, option_to_list, bytes_eq, bytes_eq-Decides, and-true}
use Rattle.club_tables.proofs.Common.{everything, Text, Int, Row, Ghosts, col, Term, lit, op2, inner, end, understood, Held, Binary, Compare, Eq, Key, Facility}
use Rattle.club_tables.proofs.Common.{key_named, member_named, facility_named, Club, older_root_of, Slot, truth, Booking, same_slot, is_under, booking_under}
use Rattle.club_tables.proofs.Common.{MemberRow, KEY, MEMBER, FACILITY, OLDER_ROOT, SLOT, BOOKING, COSTS_UNDER_KEY, club_schema, key_values, member_values}
use Rattle.club_tables.proofs.Common.{facility_values, older_values, older_root_values, whole, name_values, slot_values, use_values, booking_values}
use Rattle.club_tables.proofs.Common.{cost_values, OlderRow, member_row, SlotRow, Holds, keys_tree, members_tree, facilities_tree, olders_tree, slots_tree}
use Rattle.club_tables.proofs.Common.{bookings_tree, select, is_given, nat_tests, ShowsUse, ◌+◌, ◌*◌, ◌/◌, ◌<◌, ◌^◌, false, flat_map, slice_index_or, list_any}
use Rattle.club_tables.proofs.Common.{lt-ltb, All-filter, filter_agree, recursion_from_All, All-weaker, length_permutation, and-false, and_comm, list_any_none}
use Rattle.club_tables.proofs.Common.{Value, value_cmp-Int, Add, Mul, Arith, Gt, Ge, binary, is_true, state, IsBooking, is_to_come, count_to_come, is_key_of}
use Rattle.club_tables.proofs.Common.{bookings_of, OPEN, map-flat_map, Ordering, Less, nat_cmp, IsSorted, on, then_cmp, IsTotalOrder, ranked, nat_cmp_total}
use Rattle.club_tables.proofs.Common.{in_order, nat_list_cmp_total, on_total, then_total, ascending, value_cmp-Text, then-Equal, value_cmp, key_cmp, DAY}
use Rattle.club_tables.proofs.Common.{ShowsDay, is_on, ap₂, cond, ◌++◌, Some, Contains, sum_by, AllByRecursion, false_from_ne_true, sum_by-cons, sum_by_push}
use Rattle.club_tables.proofs.Common.{nat_list_eq_equiv, or-false, IsSound, IsOwnedBy, all_weaker, all-map, all_has, has_last, has_contained}
use Rattle.club_tables.proofs.{CrashLemmas.{Asks, Shows, keys_held, bookings_held, shown_by, asked_tables, asked_reads}, JoinLemmas.filter_filter}
use Rattle.club_tables.proofs.{JoinLemmas.{IsElsewhere, pairs_counted, selected_both}, SelectLemmas.{pairs_mapped, text_equal, apart_from_pairs, one_passes}}
use Rattle.club_tables.proofs.SelectLemmas.{short_permutation, whole_equal, one_listed, filter_same, pairs_from_apart, selected_in_order, none_greater}
use Rattle.club_tables.proofs.SelectLemmas.{apart-permutation, Apart, IsLone}

pub find_mapped : {X Y : Type 0} (p : Y → Bool) (f : X → Y) (xs : List X) → find p (map f xs) ≡ option_map f (find (λ x. p (f x)) xs)
find_mapped p f [] = refl
find_mapped p f (x ∷ xs) = grind (arith, find_mapped p f xs)

pub both_tests : (a a' b b' : Bool) → a ≡ a' → b ≡ b' → (a && (b && true)) ≡ (a' && b')
both_tests a a' b b' p q = let e = and-true b in cc

pub first_returned : {X : Type 0} (show : X → Row) (p : X → Bool) (xs : List X) (rows : List Row) → length (filter p xs) ≤ 1
    → IsPermutation (map show (filter p xs)) rows → rows ≡ map show (option_to_list (find p xs))
first_returned show p xs rows low same =
    short_permutation (map show (filter p xs)) rows (omega (arith, length-map (filter p xs) show)) same ∙ ap (map show) (one_listed p xs low)

pub one_named : {X : Type 0} (name_of : X → List ℕ) (name : List ℕ) (xs : List X) → AllPairs (λ a b. name_of a ≢ name_of b) xs
    → length (filter (λ x. bytes_eq (name_of x) name) xs) ≤ 1
one_named {X} name_of name xs unique =
    let R : X → X → Type 0 = λ a b. name_of a ≢ name_of b in
    one_passes R (λ x. bytes_eq (name_of x) name) xs (λ x y a b apart. grind (arith, bytes_eq-Decides)) (apart_from_pairs R xs unique)

pub key_shown : {S : Type 0} (g : Ghosts S) (old : Held S) (name : List ℕ)
    → Shows g old (KEY.now, Text name ∷ []) (λ club rows. rows ≡ map key_values (option_to_list (key_named name club)))
unfolding understood everything
key_shown g old name =
    shown_by (record { is = refl; plain = (refl, refl); unlisted = refl }) key_values (λ key. bytes_eq key.name name) key_values
    (λ id key. and-true _ ∙ text_equal key.name name) (λ id key. refl) (λ club tables. (
      club.keys,
      keys_held _ club tables,
      λ rows. first_returned key_values _ club.keys rows (one_named (λ (key : Key). key.name) name club.keys tables.sound.unique.keys),
    ))

pub older_shown : {S : Type 0} (g : Ghosts S) (old : Held S) (name : List ℕ)
    → Shows g old (OLDER_ROOT.now, Text name ∷ []) (λ club rows. rows ≡ map older_root_values (option_to_list (older_root_of name club)))
unfolding understood everything
older_shown g old name =
    let p : OlderRow → Bool = λ row. bytes_eq row.key name in
    let show : OlderRow → Row = λ row. older_root_values row.older in
    shown_by (record { is = refl; plain = (refl, refl); unlisted = refl }) older_values p show (λ id row. and-true _ ∙ text_equal row.key name)
    (λ id row. refl) (λ club tables.
    let olders = tables.rows.olders in (
      olders,
      tables.holds_rows.held.olders,
      λ rows same. first_returned show p olders rows (one_named (λ (row : OlderRow). row.key) name olders tables.storage.olders_once) same
          ∙ (grind arith) ∙ ap (λ o. map older_root_values (option_to_list o)) (tables.storage.olders name),
    ))

pub member_shown : {S : Type 0} (g : Ghosts S) (old : Held S) (name : List ℕ) → Shows g old (MEMBER.now, Text name ∷ [])
    (λ club rows. rows ≡ map member_values (option_to_list (option_map (member_row club) (member_named name club))))
unfolding understood everything
member_shown g old name =
    let p : MemberRow → Bool = λ row. bytes_eq row.member.name name in
    shown_by (record { is = refl; plain = (refl, refl); unlisted = refl }) member_values p member_values
    (λ id row. and-true _ ∙ text_equal row.member.name name) (λ id row. refl) (λ club tables.
    let unique = pairs_mapped (λ (a : MemberRow) (b : MemberRow). a.member.name ≢ b.member.name) (member_row club) (λ row. row.member) club.members
    tables.sound.unique.members in (
      map (member_row club) club.members,
      subst (Holds member_values _) tables.storage.members tables.holds_rows.held.members,
      λ rows same. first_returned member_values p _ rows (one_named (λ (row : MemberRow). row.member.name) name _ unique) same
          ∙ ap (λ o. map member_values (option_to_list o)) (find_mapped p (member_row club) club.members),
    ))

pub facility_shown : {S : Type 0} (g : Ghosts S) (old : Held S) (name : List ℕ)
    → Shows g old (FACILITY.now, Text name ∷ []) (λ club rows. rows ≡ map facility_values (option_to_list (facility_named name club)))
unfolding understood everything
facility_shown g old name =
    shown_by (record { is = refl; plain = (refl, refl); unlisted = refl }) facility_values (λ facility. bytes_eq facility.name name) facility_values
    (λ id facility. and-true _ ∙ text_equal facility.name name)
    (λ id facility. refl) (λ club tables. (
      club.facilities,
      subst (Holds facility_values _) tables.storage.facilities tables.holds_rows.held.facilities,
      λ rows. first_returned facility_values _ club.facilities rows
          (one_named (λ (facility : Facility). facility.name) name club.facilities tables.sound.unique.facilities),
    ))

pub same_slots : (a b : Slot) → same_slot a b ≡ true → a ≡ b
same_slots a b h = grind (arith, nat_tests, bytes_eq-Decides)

pub one_slot : (slot : Slot) (rows : List SlotRow) → AllPairs (λ (a : SlotRow) (b : SlotRow). a.slot ≢ b.slot) rows
    → length (filter (λ (row : SlotRow). same_slot row.slot slot) rows) ≤ 1
one_slot slot rows once =
    let R : SlotRow → SlotRow → Type 0 = λ a b. a.slot ≢ b.slot in
    one_passes R _ rows (λ x y a b apart. apart (same_slots x.slot slot a ∙ sym (same_slots y.slot slot b))) (apart_from_pairs R rows once)

pub slot_shown : {S : Type 0} (g : Ghosts S) (old : Held S) (slot : Slot) → Shows g old (SLOT.now, name_values slot) (λ club. ShowsUse club slot)
unfolding understood everything
slot_shown g old slot =
    let p : SlotRow → Bool = λ row. same_slot row.slot slot in
    let show : SlotRow → Row = λ row. use_values row.held in
    shown_by (record { is = refl; plain = (refl, refl); unlisted = refl }) slot_values p show (λ id row.
    grind (arith, text_equal, whole_equal)) (λ id row. refl) (λ club tables.
    let slots = tables.rows.slots in (
      slots,
      tables.holds_rows.held.slots,
      λ rows same. grind (arith, first_returned show p slots rows (one_slot slot slots tables.storage.once) same, tables.storage.slots slot),
    ))

abbrev pub AreBookingsOnce : List Booking → Type 0
AreBookingsOnce = AllPairs (λ (a : Booking) (b : Booking). ¬ ((a.key ≡ b.key) × (a.number ≡ b.number)))

abbrev pub is_numbered : List ℕ → ℕ → Booking → Bool
is_numbered key number booking = is_under key booking && booking.number == number

pub same_numbers : (key : List ℕ) (number : ℕ) (a b : Booking) → is_numbered key number a ≡ true → is_numbered key number b ≡ true
    → (a.key ≡ b.key) × (a.number ≡ b.number)
same_numbers key number a b p q = grind (arith, nat_tests, bytes_eq-Decides)

pub one_numbered : (key : List ℕ) (number : ℕ) (bookings : List Booking) → AreBookingsOnce bookings → length (filter (is_numbered key number) bookings) ≤ 1
one_numbered key number bookings unique =
    let R : Booking → Booking → Type 0 = λ a b. ¬ ((a.key ≡ b.key) × (a.number ≡ b.number)) in
    one_passes R (is_numbered key number) bookings (λ x y a b apart. apart (same_numbers key number x y a b)) (apart_from_pairs R bookings unique)

pub booking_shown : {S : Type 0} (g : Ghosts S) (old : Held S) (key : List ℕ) (number : ℕ) → Shows g old (BOOKING.now, Text key ∷ whole number ∷ [])
    (λ club rows. rows ≡ map booking_values (option_to_list (booking_under key number club.bookings)))
unfolding understood everything
booking_shown g old key number =
    shown_by (record { is = refl; plain = (refl, refl); unlisted = refl }) booking_values (is_numbered key number) booking_values
    (λ id b. both_tests _ _ _ _ (text_equal b.key key) (whole_equal b.number number))
    (λ id b. refl) (λ club tables. (
      club.bookings,
      bookings_held _ club tables,
      λ rows.
          first_returned booking_values _ club.bookings rows (one_numbered key number club.bookings tables.sound.unique.bookings),
    ))

abbrev pub is_uncancelled : Term
is_uncancelled = op2 (Compare Eq Binary) (col 1 9) (lit (Int (pos 0)))

pub no_truth : (b : Bool) → (truth b == 0) ≡ not b
no_truth b = grind (arith, nat_tests)

pub costs_shown : {S : Type 0} (g : Ghosts S) (old : Held S) (key : List ℕ) → Shows g old (COSTS_UNDER_KEY.now, Text key ∷ [])
    (λ club. IsPermutation (map cost_values (filter (is_under key) club.bookings)))
unfolding understood everything
costs_shown g old key =
    shown_by (record { is = refl; plain = (refl, refl); unlisted = refl }) booking_values (is_under key) cost_values
    (λ id b. and-true _ ∙ text_equal b.key key) (λ id b. refl) (λ club tables.
    (club.bookings, bookings_held _ club tables, λ rows same. same))

product : (m n : ℕ) → m * n < 2 ^ 63 → binary (Arith Mul) (Int (pos m)) (Int (pos n)) ≡ Int (pos (m * n))
unfolding binary
product m n low = rw (lt-ltb (m * n) (2 ^ 63) low) refl

pub total : (m n : ℕ) → m + n < 2 ^ 63 → binary (Arith Add) (Int (pos m)) (Int (pos n)) ≡ Int (pos (m + n))
unfolding binary
total m n low = rw (lt-ltb (m + n) (2 ^ 63) low) refl

abbrev start_value : Booking → Value
start_value b = binary (Arith Add) (binary (Arith Mul) (whole b.slot.day) (whole 1440)) (binary (Arith Mul) (whole b.slot.hour) (whole 60))

-- The booking was made with the key, the key belongs to the member, and the booking passes the
-- test.
abbrev pub is_owned : List ℕ → (Booking → Bool) → Key → Booking → Bool
is_owned member test key booking = bytes_eq key.name booking.key && (bytes_eq key.member member && test booking)

pub any_filtered : {X : Type 0} (p q : X → Bool) (xs : List X) → list_any p (filter q xs) ≡ list_any (λ x. q x && p x) xs
any_filtered p q [] = refl
any_filtered p q (x ∷ xs) = grind (arith, any_filtered p q xs)

any_owned : (names owns : Key → Bool) (b : Bool) (keys : List Key) → list_any (λ key. names key && (owns key && b)) keys
    ≡ (list_any names (filter owns keys) && b)
any_owned names owns true keys = simp (and-true, any_filtered) (λ i. list_any (λ key. and_comm (names key) (owns key) i) keys)
any_owned names owns false keys = simp and-false (list_any_none (λ _. false) keys (λ k x low. refl))

other_key : (member : List ℕ) (test : Booking → Bool) (a b : Key) → a.name ≢ b.name → IsElsewhere (is_owned member test) a b
other_key member test a b apart booking h = grind (arith, bytes_eq-Decides)

owned_count : (member : List ℕ) (test : Booking → Bool) (show : Booking → Row) (club : Club) (rows : List Row)
    → AllPairs (λ (a : Key) (b : Key). a.name ≢ b.name) club.keys
    → IsPermutation (flat_map (λ key. map show (filter (is_owned member test key) club.bookings)) club.keys) rows
    → length rows ≡ length (filter test (bookings_of member club))
owned_count member test show club rows unique h =
    let pairs : Key → List Booking = λ key. filter (is_owned member test key) club.bookings in
    let among : Booking → Bool = λ booking. is_key_of member club booking.key in
    let each = filter_agree _ (λ booking. among booking && test booking) (λ booking.
    any_owned (λ key. bytes_eq key.name booking.key) (λ key. bytes_eq key.member member) (test booking) club.keys) club.bookings in
    length_permutation _ rows h ∙ ap length (sym (map-flat_map show pairs club.keys)) ∙ length-map (flat_map pairs club.keys) show
    ∙ pairs_counted (is_owned member test) club.keys club.bookings (apart_from_pairs (IsElsewhere (is_owned member test)) club.keys (λ i j d less low.
    other_key member test (slice_index_or club.keys i d) (slice_index_or club.keys j d) (unique i j d less low)))
    ∙ ap length (each ∙ sym (filter_filter test among club.bookings))

abbrev comes : ℕ → Booking → Bool
comes moment b =
    not b.cancelled
    && (is_true (binary (Compare Gt Binary) (start_value b) (whole moment)) && is_true (binary (Compare Ge Binary) (whole b.slot.day) (whole (moment / 1440))))

comes_is : (moment : ℕ) (b : Booking) → IsBooking b → comes moment b ≡ is_to_come moment b
unfolding binary
comes_is moment b row = grind (arith, nat_tests, product, total, row.slot.day.1, row.slot.hour, value_cmp-Int)

pub open_shown : {S : Type 0} (g : Ghosts S) (old : Held S) (member : List ℕ) (moment : ℕ)
    → Shows g old (OPEN.now, Text member ∷ whole moment ∷ whole (moment / 1440) ∷ [])
    (λ club rows. length rows ≡ count_to_come moment (bookings_of member club))
unfolding understood everything
open_shown g old member moment rows clean asked club others represents =
    let tables = asked_tables asked clean club others represents in
    let reads = asked_reads {schema = club_schema} asked (record { is = refl; plain = (refl, refl); unlisted = refl }) tables.holds_rows.schema in
    let number : Booking → Row = λ b. whole b.number ∷ [] in
    let both = selected_both key_values booking_values (is_owned member (comes moment)) number reads (λ i j k b. ap₂ ◌&&◌ (text_equal k.name b.key)
    (ap₂ ◌&&◌ (text_equal k.member member) (ap₂ ◌&&◌ (whole_equal (truth b.cancelled) 0 ∙ no_truth b.cancelled)
    (ap (λ c. is_true (binary (Compare Gt Binary) (start_value b) (whole moment)) && c) (and-true _)))))
    (λ i j k b. refl) club.keys club.bookings (keys_held _ club tables) (bookings_held _ club tables) in
    let own = bookings_of member club in
    owned_count member (comes moment) number club rows tables.sound.unique.keys both
    ∙ ap length (filter_same (comes moment) (is_to_come moment) own (recursion_from_All _ own (All-weaker IsBooking _ (comes_is moment) own
    (All-filter (λ b. is_key_of member club b.key) IsBooking club.bookings tables.sound.rows.bookings))))

abbrev sheet_cmp : Booking → Booking → Ordering
sheet_cmp =
    then_cmp (on (λ (b : Booking). b.slot.facility) (slice_cmp nat_cmp))
    (then_cmp (on (λ (b : Booking). b.slot.hour) nat_cmp)
    (then_cmp (on (λ (b : Booking). b.key) (slice_cmp nat_cmp)) (on (λ (b : Booking). b.number) nat_cmp)))

sheet_total : IsTotalOrder sheet_cmp
sheet_total =
    then_total (on_total (λ (b : Booking). b.slot.facility) nat_list_cmp_total)
    (then_total (on_total (λ (b : Booking). b.slot.hour) nat_cmp_total)
    (then_total (on_total (λ (b : Booking). b.key) nat_list_cmp_total) (on_total (λ (b : Booking). b.number) nat_cmp_total)))

number_less : (m n : ℕ) → nat_cmp m n ≡ Less → m < n
number_less m n h = ranked m n Less (sym h)

abbrev Differ : Booking → Booking → Type 0
Differ a b = ¬ ((a.key ≡ b.key) × (a.number ≡ b.number))

-- The values that determine the order of the day sheet.
abbrev sheet_key : Booking → Row
sheet_key b = Text b.slot.facility ∷ whole b.slot.hour ∷ Text b.key ∷ whole b.number ∷ []

whole_cmp : (m n : ℕ) → value_cmp (whole m) (whole n) ≡ nat_cmp m n
whole_cmp m n = let same : int_cmp (pos m) (pos n) ≡ nat_cmp m n = grind (arith, nat_tests) in value_cmp-Int (pos m) (pos n) ∙ same

by_values : (a b : Booking) → key_cmp 0 (map (λ _. ascending Binary) (sheet_key a)) (sheet_key a) (sheet_key b) ≡ sheet_cmp a b
by_values a b = simp (value_cmp-Text, whole_cmp, then-Equal)

pub day_shown : {S : Type 0} (g : Ghosts S) (old : Held S) (day : ℕ) → Shows g old (DAY.now, whole day ∷ []) (λ club. ShowsDay club day)
unfolding understood everything
day_shown g old day rows clean asked club others represents =
    let tables = asked_tables asked clean club others represents in
    let reads = asked_reads {schema = club_schema} asked (record { is = refl; plain = (refl, refl); unlisted = refl }) tables.holds_rows.schema in
    let day_selection = selected_in_order booking_values (is_on day) booking_values sheet_key reads
    (λ id b. both_tests _ _ _ _ (whole_equal b.slot.day day) (whole_equal (truth b.cancelled) 0 ∙ no_truth b.cancelled)
    ∙ and_comm (b.slot.day == day) (not b.cancelled)) (λ id b. refl) (λ id b. refl) club.bookings (bookings_held _ club tables) in
    let bookings = day_selection.ordered in
    let same_cmp : (λ (a b : Booking). key_cmp 0 (map (λ _. ascending Binary) (sheet_key a)) (sheet_key a) (sheet_key b)) ≡ sheet_cmp =
    λ i a b. by_values a b i in
    let none_after = none_greater sheet_cmp sheet_total bookings (subst (λ cmp. IsSorted cmp bookings) same_cmp day_selection.sorted) in
    let unique = AllPairs-filter Differ (is_on day) club.bookings tables.sound.unique.bookings in
    let apart = apart-permutation Differ (λ a b differ same. differ (sym same.0, sym same.1)) (filter (is_on day) club.bookings) bookings day_selection.same
    (apart_from_pairs Differ _ unique) in
    let differ = pairs_from_apart Differ bookings apart in (
      bookings,
      record {
        same = day_selection.same;
        order = λ i j d less low. grind (arith, nat_tests, exact_bytes, exact_unsigned, number_less, none_after i j d less low, differ i j d less low);
      },
      day_selection.shown,
    )

pub map_agree : {X Y : Type 0} (f g : X → Y) → ((x : X) → f x ≡ g x) → (xs : List X) → map f xs ≡ map g xs
map_agree f g same xs = λ i. map (λ x. same x i) xs

pub all_last : {X : Type 0} (P : X → Type 0) (xs : List X) (y : X) → AllByRecursion P (xs ++ y ∷ []) → P y
all_last P xs y h = all_has P (xs ++ y ∷ []) y h (has_last (xs ++ y ∷ []) xs y refl)

pub apart_last : {X : Type 0} (R : X → X → Type 0) (xs : List X) (y : X) → Apart R (xs ++ y ∷ []) → AllByRecursion (λ x. R x y) xs
apart_last R [] y h = tt
apart_last R (x ∷ xs) y h = (all_last (R x) xs y h.0, apart_last R xs y h.1)

pub not_among : {X : Type 0} (f : X → List ℕ) (xs : List X) (y : List ℕ) → AllByRecursion (λ x. f x ≢ y) xs → Contains (map f xs) y → ⊥
not_among f xs y apart has = all_has (λ z. z ≢ y) (map f xs) y (all-map (λ z. z ≢ y) f xs apart) (has_contained (map f xs) y has) refl

pub unequal : (a b : List ℕ) → a ≢ b → bytes_eq a b ≡ false
unequal a b apart = grind (arith, bytes_eq-Decides)

sum_picked : {X : Type 0} (w : X → ℕ) (q : X → Bool) (xs : List X) → sum_by w (filter q xs) ≡ sum_by (λ x. cond (q x) (w x) 0) xs
sum_picked w q [] = refl
sum_picked w q (x ∷ xs) = grind (arith, sum_by-cons w x (filter q xs), sum_by-cons (λ y. cond (q y) (w y) 0) x xs, sum_picked w q xs)

pub sum_more : {X : Type 0} (w : X → ℕ) (q : X → Bool) (xs : List X) (x : X) → sum_by w (filter q (xs ++ x ∷ [])) ≡ sum_by w (filter q xs) + cond (q x) (w x) 0
sum_more {X} w q xs x =
    let c : X → ℕ = λ y. cond (q y) (w y) 0 in
    omega (arith, sum_picked w q (xs ++ x ∷ []), sum_picked w q xs, sum_by_push c xs x)

module _ {X : Type 0} (p : X → Bool) (f : X → X) (kept : (x : X) → p x ≡ false → f x ≡ x) where
  none_changed : (xs : List X) → AllByRecursion (λ x. p x ≡ false) xs → map f xs ≡ xs
  none_changed [] h = refl
  none_changed (x ∷ xs) h = grind (arith, kept x, none_changed xs)

  sum_changed : (c : X → ℕ) (xs : List X) (x : X) → Apart (IsLone p) xs → find p xs ≡ Some x → sum_by c (map f xs) + c x ≡ sum_by c xs + c (f x)
  sum_changed c [] x alone is = absurd cc
  sum_changed c (y ∷ xs) x alone is =
      let rest = λ (passes : p y ≡ true). none_changed xs
      (all_weaker (IsLone p y) _ (λ z apart. false_from_ne_true (p z) (λ h. apart (passes, h))) xs alone.0) in
      grind (arith, sum_by-cons c (f y) (map f xs), sum_by-cons c y xs, rest, kept y, sum_changed c xs x alone.1)

  pub picked_changed : (w : X → ℕ) (q : X → Bool) (xs : List X) (x : X) → Apart (IsLone p) xs → find p xs ≡ Some x
      → sum_by w (filter q (map f xs)) + cond (q x) (w x) 0 ≡ sum_by w (filter q xs) + cond (q (f x)) (w (f x)) 0
  picked_changed w q xs x alone is =
      let c : X → ℕ = λ y. cond (q y) (w y) 0 in
      omega (arith, sum_picked w q (map f xs), sum_picked w q xs, sum_changed c xs x alone is)

pub owner_is : (club : Club) → IsSound club → (key member name : List ℕ) → IsOwnedBy member key club → is_key_of name club key ≡ bytes_eq name member
owner_is club sound key member name owned =
    let names : Key → Bool = λ row. bytes_eq row.name key in
    let owns : Key → Bool = λ row. bytes_eq row.member name in
    let row = owned.0 in
    let one : filter names club.keys ≡ row ∷ [] =
    one_listed names club.keys (one_named (λ (k : Key). k.name) key club.keys sound.unique.keys) ∙ ap option_to_list owned.1 in
    any_filtered names owns club.keys ∙ ap (λ test. list_any test club.keys) (λ i k. and_comm (owns k) (names k) i)
    ∙ sym (any_filtered owns names club.keys) ∙ ap (list_any owns) one ∙ or-false (owns row)
    ∙ ap (λ m. bytes_eq m name) owned.2 ∙ nat_list_eq_equiv.symm member name
