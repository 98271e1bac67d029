-- Lemmas about the statements that update the row of a member, a key or a cancelled booking.
use Rattle.club_tables.proofs.{AddLemmas.{member_table, key_table, booking_table}, Common.{rules, ◌≡◌, ◌+◌, ◌≤◌, ℕ, ℤ, pos, Some, Bool, true, ◌&&◌}}
use Rattle.club_tables.proofs.Common.{if◌then◌else◌, List, [], ◌∷◌, length, map, ◌≢◌, refl, sym, ap, ◌∙◌, filter, find, AllPairs, list_all, bytes_eq, and_parts}
use Rattle.club_tables.proofs.Common.{bytes_eq-Decides, and-true, or-true, or-false, everything, Int, Text, Blob, Binary, Arith, Compare, Add, Eq, binary}
use Rattle.club_tables.proofs.Common.{cast_row, Row, Term, col, op2, holds, lit, understood, Key, credited_member, revoked_key, rotated_key, truth, MemberRow}
use Rattle.club_tables.proofs.Common.{ADD_CREDIT, ADD_USED, REVOKE_KEY, SET_ROOT, used_values, whole, member_values, key_values, is_given, Rows, members_tree}
use Rattle.club_tables.proofs.Common.{keys_tree, is_true, nat_le, nat_tests, arith, value_cmp-Int, SET_QUOTA, Sub, TAKE_CREDIT, debited_member, ◌<◌, ◌-◌, ◌^◌}
use Rattle.club_tables.proofs.Common.{member_with_quota, Le, slice_index_or, false, ◌++◌, subst, All, Contains, length-map, get_or-map, Booking}
use Rattle.club_tables.proofs.Common.{cancelled_booking, booking_under, is_in, taken_in, cost_of, Slot, Member, same_slot, persons_of, Club, IsSound, is_key_of}
use Rattle.club_tables.proofs.Common.{IsBooking, IsOwnedBy, IsToCancel, CANCEL_BOOKING, booking_values, member_row, used_by, all_from, test_has}
use Rattle.club_tables.proofs.JoinLemmas.{is_counted, counted_some, passes, shown, with_count, answered_counted, counts_elements, truths}
use Rattle.club_tables.proofs.MemberLemmas.{both_tests, one_named, total, AreBookingsOnce, is_numbered, is_uncancelled, one_numbered, same_numbers}
use Rattle.club_tables.proofs.{MemberLemmas.{picked_changed, owner_is}, SelectLemmas.{on_members, on_keys, Steps, WhenRan, text_equal, shows, test, blob_equal}}
use Rattle.club_tables.proofs.SelectLemmas.{contains_counts, find_some, found, wider_is, on_bookings, whole_equal, Apart, apart_from_pairs, IsLone}
use Rattle.club_tables.proofs.UpdateLemmas.{cast_int, FindsOne, finds_by, finds_row, one_changed, one_found}

abbrev pub AreKeysOnce : List Key → Type 0
AreKeysOnce = AllPairs (λ (a : Key) (b : Key). a.name ≢ b.name)

-- A search for this name in the list of keys finds this key.
abbrev pub StoresKey : List ℕ → List Key → Key → Type 0
StoresKey name keys key = find (λ (key : Key). bytes_eq key.name name) keys ≡ Some key

abbrev pub name_of : MemberRow → List ℕ
name_of row = row.member.name

abbrev pub AreNamedOnce : List MemberRow → Type 0
AreNamedOnce = AllPairs (λ (a : MemberRow) (b : MemberRow). name_of a ≢ name_of b)

-- A search for this name in the rows of members finds this row.
abbrev pub StoresMember : List ℕ → List MemberRow → MemberRow → Type 0
StoresMember name members row = find (λ (row : MemberRow). bytes_eq (name_of row) name) members ≡ Some row

-- Adds points to the credit in the row, if the row's member has this name.
abbrev pub credited_row : List ℕ → ℕ → MemberRow → MemberRow
credited_row name points row = record row { member = credited_member name points row.member }

-- Subtracts points from the credit in the row, if the row's member has this name.
abbrev pub debited_row : List ℕ → ℕ → MemberRow → MemberRow
debited_row name points row = record row { member = debited_member name points row.member }

abbrev pub used_row : List ℕ → (ℕ → ℕ) → MemberRow → MemberRow
used_row name next row = record row { used = if bytes_eq row.member.name name then next row.used else row.used }

-- Sets the quota in the row, if the row's member has this name.
abbrev pub quota_row : List ℕ → ℕ → MemberRow → MemberRow
quota_row name quota row = record row { member = member_with_quota name quota row.member }

pub whole_to : (m n : ℕ) → is_true (binary (Compare Le Binary) (Int (pos m)) (Int (pos n))) ≡ nat_le m n
unfolding binary
whole_to m n = grind (arith, nat_tests, value_cmp-Int)

difference : (m r : ℕ) → r ≤ m → m < 2 ^ 63 → binary (Arith Sub) (whole m) (whole r) ≡ whole (m - r)
unfolding binary
difference m r low small = search rules

abbrev credit_terms : List Term
credit_terms = col 1 0 ∷ col 1 0 ∷ col 1 1 ∷ op2 (Arith Add) (col 1 2) (col 0 1) ∷ col 1 3 ∷ col 1 4 ∷ []

abbrev credit_tests : List Term
credit_tests = is_given 1 0 ∷ op2 (Compare Le Binary) (op2 (Arith Add) (col 1 2) (col 0 1)) (lit (Int (pos 999_999_999))) ∷ []

abbrev debit_terms : List Term
debit_terms = col 1 0 ∷ col 1 0 ∷ col 1 1 ∷ op2 (Arith Sub) (col 1 2) (col 0 1) ∷ col 1 3 ∷ col 1 4 ∷ []

abbrev debit_tests : List Term
debit_tests = is_given 1 0 ∷ op2 (Compare Le Binary) (op2 (Arith Add) (col 1 4) (col 0 1)) (col 1 2) ∷ []

abbrev quota_terms : List Term
quota_terms = col 1 0 ∷ col 1 0 ∷ col 1 1 ∷ col 1 2 ∷ col 0 1 ∷ col 1 4 ∷ []

abbrev pub owner_tests : List Term
owner_tests = op2 (Compare Eq Binary) (col 2 1) (col 0 2) ∷ op2 (Compare Eq Binary) (col 2 2) (col 0 0) ∷ []

abbrev used_tests : List Term
used_tests = is_given 1 0 ∷ col 2 0 ∷ []

abbrev pub used_terms : List Term
used_terms = col 1 0 ∷ col 1 0 ∷ col 1 1 ∷ col 1 2 ∷ col 1 3 ∷ op2 (Arith Add) (col 1 4) (col 0 1) ∷ []

pub casts_member : (id : ℤ) (row : MemberRow) → cast_row member_table (Int id ∷ member_values row) ≡ Int id ∷ member_values row
casts_member id row = rw (cast_int id, cast_int (pos row.member.credited), cast_int (pos row.member.quota), cast_int (pos row.used))

module _ (rows : Rows) (once : AreNamedOnce rows.members) (name : List ℕ) where
  abbrev pub is_named : MemberRow → Bool
  is_named row = bytes_eq (name_of row) name

  pub low_named : length (filter is_named rows.members) ≤ 1
  low_named = one_named name_of name rows.members once

  module _ (points : ℕ) where
    abbrev points_params : Row
    points_params = Text name ∷ whole points ∷ []

    abbrev is_credited : MemberRow → Bool
    is_credited row = test points_params credit_tests credit_terms (Int (pos 0) ∷ member_values row)

    pub credit_finds : WhenRan (ADD_CREDIT.now, points_params) rows (λ old new count.
        FindsOne member_values is_credited is_named rows.members (shows points_params credit_tests credit_terms) old new member_table count)
    unfolding understood everything
    credit_finds =
        finds_row 1 points_params credit_tests credit_terms (record { is = refl; plain = (refl, refl) }) refl (λ db holds_rows. holds_rows.held.members)
        (λ id row. refl) (λ row passes. sym (text_equal (name_of row) name) ∙ (and_parts _ _ passes).0) low_named

    pub member_credited : (row : MemberRow) → StoresMember name rows.members row
        → binary (Arith Add) (whole row.member.credited) (whole points) ≡ whole (row.member.credited + points)
        → nat_le (row.member.credited + points) 999_999_999 ≡ true
        → Steps (ADD_CREDIT.now, points_params) rows (record rows { members = map (credited_row name points) rows.members })
    member_credited row is sum low old new count holds_rows ran =
        one_changed (credit_finds old new count holds_rows ran) row is
        (rw (text_equal (name_of row) name, sum, whole_to (row.member.credited + points) 999_999_999, low, (found is_named rows.members row is).1) refl)
        (credited_row name points) (λ row fails. rw fails refl) (λ id passes. rw (passes, sum) refl) casts_member
        (λ wrote held. on_members holds_rows wrote held)

    abbrev is_debited : MemberRow → Bool
    is_debited row = test points_params debit_tests debit_terms (Int (pos 0) ∷ member_values row)

    pub debit_finds : WhenRan (TAKE_CREDIT.now, points_params) rows (λ old new count.
        FindsOne member_values is_debited is_named rows.members (shows points_params debit_tests debit_terms) old new member_table count)
    unfolding understood everything
    debit_finds =
        finds_row 1 points_params debit_tests debit_terms (record { is = refl; plain = (refl, refl) }) refl (λ db holds_rows. holds_rows.held.members)
        (λ id row. refl) (λ row passes. sym (text_equal (name_of row) name) ∙ (and_parts _ _ passes).0) low_named

    pub member_debited : (row : MemberRow) → StoresMember name rows.members row → row.used + points ≤ row.member.credited → row.member.credited < 2 ^ 63
        → Steps (TAKE_CREDIT.now, points_params) rows (record rows { members = map (debited_row name points) rows.members })
    member_debited row is enough small old new count holds_rows ran =
        let low : nat_le (row.used + points) row.member.credited ≡ true = grind (arith, nat_tests) in
        let sum = total row.used points (omega (arith, enough, small)) in
        let rest = difference row.member.credited points (omega (arith, enough)) small in
        one_changed (debit_finds old new count holds_rows ran) row is
        (rw (text_equal (name_of row) name, sum, whole_to (row.used + points) row.member.credited, low, (found is_named rows.members row is).1) refl)
        (debited_row name points) (λ row fails. rw fails refl) (λ id passes. rw (passes, rest) refl) casts_member
        (λ wrote held. on_members holds_rows wrote held)

  module _ (quota : ℕ) where
    abbrev quota_params : Row
    quota_params = Text name ∷ whole quota ∷ []

    pub quota_finds : WhenRan (SET_QUOTA.now, quota_params) rows (λ old new count.
        FindsOne member_values is_named is_named rows.members (shows quota_params (is_given 1 0 ∷ []) quota_terms) old new member_table count)
    unfolding understood everything
    quota_finds =
        finds_row 1 quota_params (is_given 1 0 ∷ []) quota_terms (record { is = refl; plain = (refl, refl) }) refl (λ db holds_rows. holds_rows.held.members)
        (λ id row. and-true _ ∙ text_equal (name_of row) name) (λ row passes. passes) low_named

    pub member_given : (row : MemberRow) → StoresMember name rows.members row
        → Steps (SET_QUOTA.now, quota_params) rows (record rows { members = map (quota_row name quota) rows.members })
    member_given row is old new count holds_rows ran =
        one_changed (quota_finds old new count holds_rows ran) row is (found is_named rows.members row is).1 (quota_row name quota)
        (λ row fails. rw fails refl) (λ id passes. rw passes refl) casts_member (λ wrote held. on_members holds_rows wrote held)

  module _ (points : ℤ) (key : List ℕ) where
    abbrev used_params : Row
    used_params = used_values name points key

    abbrev is_key : Key → Bool
    is_key k = bytes_eq k.name key

    abbrev pub owns : Key → Bool
    owns k = is_key k && bytes_eq k.member name

    abbrev pub has_owner : Bool
    has_owner = is_counted (length (filter owns rows.keys))

    -- If a row of the table of keys passes the test of owners, the key belongs to the member.
    pub owned_key : AreKeysOnce rows.keys → has_owner ≡ true → (k : Key) × StoresKey key rows.keys k × (k.member ≡ name)
    owned_key unique owned =
        let one = find_some owns rows.keys (grind arith) in
        let key_is = wider_is owns is_key (λ k h. (and_parts (is_key k) _ h).0) rows.keys (one_named (λ (k : Key). k.name) key rows.keys unique) one.0 one.1 in
        (one.0, key_is.0, (bytes_eq-Decides one.0.member name).0 (and_parts (is_key one.0) _ key_is.1).1)

    pub key_owned : (k : Key) → StoresKey key rows.keys k → k.member ≡ name → has_owner ≡ true
    key_owned k stores same =
        let key_is = found is_key rows.keys k stores in
        counted_some (filter owns rows.keys) (contains_counts owns rows.keys k key_is.0 (rw (key_is.1, (bytes_eq-Decides k.member name).1 same) refl))

    abbrev is_owner : MemberRow → Bool
    is_owner row = is_named row && has_owner

    pub used_finds : WhenRan (ADD_USED.now, used_params) rows (λ old new count. FindsOne member_values is_owner is_named rows.members
        (shown used_params owner_tests used_tests used_terms (old.now.trees keys_tree)) old new member_table count)
    unfolding understood everything
    used_finds =
        finds_by 1 (λ trees. shown used_params owner_tests used_tests used_terms (trees keys_tree))
        (λ trees. passes used_params owner_tests used_tests used_terms (trees keys_tree)) (record { is = refl; plain = (refl, refl) }) refl
        (λ db holds_rows. holds_rows.held.members) (λ db holds_rows id row.
        ap (λ n. list_all (holds (with_count used_params owner_tests used_tests used_terms n (Int id ∷ member_values row))) used_tests)
        (counts_elements used_params owner_tests used_tests used_terms key_values owns
        (λ id row k. both_tests _ _ _ _ (text_equal k.name key) (text_equal k.member name)) (db.trees keys_tree) rows.keys holds_rows.held.keys
        (Int id ∷ member_values row)) ∙ both_tests _ _ _ _ (text_equal (name_of row) name) refl)
        (answered_counted used_params owner_tests used_tests used_terms members_tree keys_tree)
        (λ row passes. (and_parts (is_named row) has_owner passes).0) low_named

    pub member_used : (k : Key) → StoresKey key rows.keys k → k.member ≡ name → (row : MemberRow) → StoresMember name rows.members row → (next : ℕ → ℕ)
        → binary (Arith Add) (whole row.used) (Int points) ≡ whole (next row.used)
        → Steps (ADD_USED.now, used_params) rows (record rows { members = map (used_row name next) rows.members })
    member_used k stores same row is next sum old new count holds_rows ran =
        one_changed (used_finds old new count holds_rows ran) row is (rw (key_owned k stores same, (found is_named rows.members row is).1) refl)
        (used_row name next) (λ row fails. rw fails refl) (λ id passes. rw (passes, sum) refl) casts_member (λ wrote held. on_members holds_rows wrote held)

abbrev revoke_terms : List Term
revoke_terms = col 1 0 ∷ col 1 0 ∷ col 1 1 ∷ col 1 2 ∷ col 1 3 ∷ lit (Int (pos 1)) ∷ []

abbrev root_tests : List Term
root_tests = is_given 1 0 ∷ is_given 3 2 ∷ []

abbrev root_terms : List Term
root_terms = col 1 0 ∷ col 1 0 ∷ col 1 1 ∷ col 1 2 ∷ col 0 1 ∷ col 1 4 ∷ []

casts_key : (id : ℤ) (key : Key) → cast_row key_table (Int id ∷ key_values key) ≡ Int id ∷ key_values key
casts_key id key = rw (cast_int id, cast_int (pos (truth key.revoked)))

module _ (rows : Rows) (once : AreKeysOnce rows.keys) (name : List ℕ) where
  abbrev has_name : Key → Bool
  has_name key = bytes_eq key.name name

  low_keys : length (filter has_name rows.keys) ≤ 1
  low_keys = one_named (λ (key : Key). key.name) name rows.keys once

  pub revoke_finds : WhenRan (REVOKE_KEY.now, Text name ∷ []) rows (λ old new count.
      FindsOne key_values has_name has_name rows.keys (shows (Text name ∷ []) (is_given 1 0 ∷ []) revoke_terms) old new key_table count)
  unfolding understood everything
  revoke_finds =
      finds_row 3 (Text name ∷ []) (is_given 1 0 ∷ []) revoke_terms (record { is = refl; plain = (refl, refl) }) refl (λ db holds_rows. holds_rows.held.keys)
      (λ id key. and-true _ ∙ text_equal key.name name) (λ key passes. passes) low_keys

  pub key_revoked : (key : Key) → StoresKey name rows.keys key
      → Steps (REVOKE_KEY.now, Text name ∷ []) rows (record rows { keys = map (revoked_key name) rows.keys })
  key_revoked key is old new count holds_rows ran =
      one_changed (revoke_finds old new count holds_rows ran) key is (found has_name rows.keys key is).1 (revoked_key name)
      (λ key fails. rw (fails, or-false key.revoked) refl) (λ id passes. rw (passes, or-true key.revoked) refl)
      casts_key (λ wrote held. on_keys holds_rows wrote held)

  module _ (root was : List ℕ) where
    abbrev root_params : Row
    root_params = Text name ∷ Blob root ∷ Blob was ∷ []

    abbrev has_root : Key → Bool
    has_root key = has_name key && bytes_eq key.root was

    pub root_finds : WhenRan (SET_ROOT.now, root_params) rows (λ old new count.
        FindsOne key_values has_root has_name rows.keys (shows root_params root_tests root_terms) old new key_table count)
    unfolding understood everything
    root_finds =
        finds_row 3 root_params root_tests root_terms (record { is = refl; plain = (refl, refl) }) refl (λ db holds_rows. holds_rows.held.keys)
        (λ id key. both_tests _ _ _ _ (text_equal key.name name) (blob_equal key.root was)) (λ key passes. (and_parts (has_name key) _ passes).0) low_keys

    pub root_set : (key : Key) → StoresKey name rows.keys key → key.root ≡ was → (until : ℕ)
        → Steps (SET_ROOT.now, root_params) rows (record rows { keys = map (rotated_key name root until) rows.keys })
    root_set key is same until old new count holds_rows ran =
        one_changed (root_finds old new count holds_rows ran) key is (rw ((found has_name rows.keys key is).1, (bytes_eq-Decides key.root was).1 same) refl)
        (rotated_key name root until) (λ key fails. rw fails refl) (λ id passes. rw passes refl) casts_key (λ wrote held. on_keys holds_rows wrote held)

abbrev cancel_tests : List Term
cancel_tests =
    is_given 1 0 ∷ is_given 2 1 ∷ is_given 3 2 ∷ is_given 4 3 ∷ is_given 5 4 ∷ is_given 6 5 ∷ is_given 7 6 ∷ is_given 8 7 ∷ is_given 9 8 ∷ is_given 10 9
    ∷ is_uncancelled ∷ []

abbrev cancel_terms : List Term
cancel_terms = col 1 0 ∷ col 1 0 ∷ col 1 1 ∷ col 1 2 ∷ col 1 3 ∷ col 1 4 ∷ col 1 5 ∷ col 1 6 ∷ col 1 7 ∷ col 1 8 ∷ lit (Int (pos 1)) ∷ col 0 10 ∷ []

-- Cancelling a booking doesn't change a booking with another key or number.
other_stays : (key : List ℕ) (number refund : ℕ) (booking : Booking) → is_numbered key number booking ≡ false
    → cancelled_booking key number refund booking ≡ booking
other_stays key number refund booking fails = grind (arith, or-false)

pub mapped_holds : {X Y : Type 0} (P : Y → Type 0) (f : X → Y) (xs : List X) (x : X) → All P (map f xs) → Contains xs x → P (f x)
mapped_holds P f xs x all has = subst P (get_or-map f xs has.0 x (f x) has.1 ∙ ap f has.2) (all has.0 (f x) (omega (arith, has.1, length-map xs f)))

module _ (rows : Rows) (once : AreBookingsOnce rows.bookings) (booking : Booking) (refund : ℕ) where
  abbrev params : Row
  params = booking_values booking ++ whole refund ∷ []

  abbrev is_here : Booking → Bool
  is_here = is_numbered booking.key booking.number

  abbrev is_as_given : Booking → Bool
  is_as_given b = test params cancel_tests cancel_terms (Int (pos 0) ∷ booking_values b)

  as_given : (b : Booking) → is_as_given b ≡ true → (b ≡ booking) × (b.cancelled ≡ false)
  as_given b h =
      let passes = holds (params ∷ (Int (pos 0) ∷ booking_values b) ∷ []) in
      let all = all_from (λ test. passes test ≡ true) cancel_tests (λ test. test_has passes cancel_tests test h) in
      grind (arith, nat_tests, bytes_eq-Decides, text_equal, whole_equal, truths)

  cancel_finds : WhenRan (CANCEL_BOOKING.now, params) rows (λ old new count.
      FindsOne booking_values is_as_given is_here rows.bookings (shows params cancel_tests cancel_terms) old new booking_table count)
  unfolding understood everything
  cancel_finds =
      finds_row 5 params cancel_tests cancel_terms (record { is = refl; plain = (refl, refl) }) refl (λ db holds_rows. holds_rows.held.bookings) (λ id b. refl)
      (λ b passes. subst (λ (x : Booking). is_here x ≡ true) (sym (as_given b passes).0) (grind (arith, nat_tests, bytes_eq-Decides)))
      (one_numbered booking.key booking.number rows.bookings once)

  -- If the statement that cancels a booking writes a row, the booking was stored and not yet
  -- cancelled.
  pub cancel_found : WhenRan (CANCEL_BOOKING.now, params) rows (λ old new count.
      1 ≤ count → (booking_under booking.key booking.number rows.bookings ≡ Some booking) × (booking.cancelled ≡ false))
  cancel_found old new count holds_rows ran some =
      let one = one_found (cancel_finds old new count holds_rows ran) some in
      let given = as_given one.0 one.2 in
      (one.1 ∙ ap Some given.0, sym (ap (λ (x : Booking). x.cancelled) given.0) ∙ given.1)

  -- If the booking is stored and isn't cancelled, the statement updates the booking's row.
  pub booking_cancelled : booking_under booking.key booking.number rows.bookings ≡ Some booking → booking.cancelled ≡ false
      → Steps (CANCEL_BOOKING.now, params) rows (record rows { bookings = map (cancelled_booking booking.key booking.number refund) rows.bookings })
  booking_cancelled on_record uncancelled old new count holds_rows ran =
      one_changed (cancel_finds old new count holds_rows ran) booking on_record (grind (arith, nat_tests, bytes_eq-Decides, text_equal, whole_equal))
      (cancelled_booking booking.key booking.number refund) (other_stays booking.key booking.number refund)
      (λ id passes. rw (passes, uncancelled) refl) (λ id b. simp cast_int) (λ wrote held. on_bookings holds_rows wrote held)

module _ (club : Club) (sound : IsSound club) (booking : Booking) (cancels : IsToCancel booking club) (refund : ℕ)
    (fits : IsSound (record club { bookings = map (cancelled_booking booking.key booking.number refund) club.bookings })) where
  abbrev key : List ℕ
  key = booking.key

  abbrev number : ℕ
  number = booking.number

  abbrev change : Booking → Booking
  change = cancelled_booking key number refund

  abbrev next : Club
  next = record club { bookings = map change club.bookings }

  alone : Apart (IsLone (is_numbered key number)) club.bookings
  alone = apart_from_pairs _ club.bookings (λ i j d less low both.
      sound.unique.bookings i j d less low (same_numbers key number (slice_index_or club.bookings i d) (slice_index_or club.bookings j d) both.0 both.1))

  pub there : Contains club.bookings booking × (is_numbered key number booking ≡ true)
  there = found (is_numbered key number) club.bookings booking cancels.0

  nothing_back : booking.refund ≡ 0
  nothing_back = (subst IsBooking there.0.2 (sound.rows.bookings there.0.0 booking there.0.1)).kept cancels.1

  now_cancelled : (change booking).cancelled ≡ true
  now_cancelled = grind (arith, there.1, cancels.1, or-true)

  now_refund : (change booking).refund ≡ refund
  now_refund = grind (arith, there.1, cancels.1)

  -- If the key belongs to the member, a cancellation lowers the member's spent points by the
  -- refund.
  pub used_back : (name : List ℕ) → used_by next name + (if is_key_of name club key then refund else 0) ≡ used_by club name
  used_back name =
      let own : Booking → Bool = λ b. is_key_of name club b.key in
      let sums = picked_changed (is_numbered key number) change (other_stays key number refund) cost_of own club.bookings booking alone cancels.0 in
      grind (arith, nothing_back, now_refund, (mapped_holds IsBooking change club.bookings booking fits.rows.bookings there.0).refund)

  -- If the booking is in the slot, a cancellation lowers the slot's number of persons by the
  -- booking's number of persons.
  pub taken_back : (s : Slot) → taken_in s next.bookings + (if same_slot booking.slot s then persons_of booking else 0) ≡ taken_in s club.bookings
  taken_back s =
      let sums = picked_changed (is_numbered key number) change (other_stays key number refund) persons_of (is_in s) club.bookings booking alone cancels.0 in
      let moved = rw (now_cancelled, cancels.1) at sums in
      omega (arith, moved)

  pub used_less : (member : List ℕ) → IsOwnedBy member key club → (m : Member) → used_row member (λ n. n - refund) (member_row club m) ≡ member_row next m
  used_less member owned m =
      ap (λ n. let row : MemberRow = record { member = m; used = n } in row)
      (grind (arith, ap (λ b. used_by next m.name + (if b then refund else 0)) (sym (owner_is club sound key member m.name owned)) ∙ used_back m.name))

  pub taken_less : (s : Slot) → taken_in s next.bookings ≡ (if same_slot booking.slot s then taken_in s club.bookings - persons_of booking else taken_in s
      club.bookings)
  taken_less s = sym (grind (arith, taken_back s))
