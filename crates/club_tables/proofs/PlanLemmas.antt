-- Proof that the statements of a change apply the change to the tables, and that the change fits
-- the club if each statement wrote a row.
use Rattle.club_core.specs.declared.change.Change.TheVariants.{MarkClosed}
use Rattle.club_laws.specs.SoundRuns.{Suits, SuitsBooking}
use Rattle.club_tables.proofs.AddLemmas.{older_represents, put_older, take_use, booking_put, member_put, facility_put, key_put, slot_taken, slot_closed}
use Rattle.club_tables.proofs.AddLemmas.{slot_opened, new_row, close_use, slot_was_open, open_use, members_apart, facilities_apart, keys_apart, key_members}
use Rattle.club_tables.proofs.{AddLemmas.{booking_facilities, bookings_apart}, ChangeLemmas.{StoresMember, member_debited, member_credited, member_given}}
use Rattle.club_tables.proofs.ChangeLemmas.{key_revoked, root_set, whole_to, AreKeysOnce, StoresKey, name_of, member_used, AreNamedOnce, used_row}
use Rattle.club_tables.proofs.ChangeLemmas.{booking_cancelled, there, used_back, taken_back, mapped_holds, used_less, taken_less, cancel_found, owned_key}
use Rattle.club_tables.proofs.{ChangeLemmas.{quota_finds, revoke_finds, root_finds, used_finds, credit_finds, debit_finds}, Common.{◌≡◌, ℕ, ◌≤◌, pos, neg_ℤ}}
use Rattle.club_tables.proofs.Common.{Bool, List, Some, refl, sym, subst, ◌∙◌, ◌≢◌, ◌+◌, ◌-◌, true, [], ◌∷◌, ◌++◌, map, Contains, ap, arith, recursion_from_All}
use Rattle.club_tables.proofs.Common.{All-contains, bytes_eq-Decides, find, option_map, bytes_eq, Database, Held, state, binary, Arith, Add, cond, SlotUse}
use Rattle.club_tables.proofs.Common.{IsMember, Ghosts, Int, good_until, after, cancelled_booking, credited_member, Club, member_named, key_named, IsOwnedBy}
use Rattle.club_tables.proofs.Common.{FitsClub, booking_under, cost_of, taken_in, InsertMember, AddCredit, InsertFacility, InsertKey, MarkRevoked, ReplaceRoot}
use Rattle.club_tables.proofs.Common.{MarkOpen, ReplaceQuota, InsertBooking, MarkCancelled, same_slot, persons_of, IsBooking, Booking, Facility, Key, Member}
use Rattle.club_tables.proofs.Common.{Slot, statements_of, adding_booking, cancelling, whole, name_values, Rows, member_row, used_by, persons_taken, IsStoredAs}
use Rattle.club_tables.proofs.Common.{HoldsClub, Ran, transaction_start, BoundStatement, MemberRow, ADD_TAKEN, SlotRow, Has, has_found, has_contained, row_of}
use Rattle.club_tables.proofs.Common.{nat_le, nat_tests, unsigned_Decides, TakeCredit, ReplaceNumbers, AllPairs, debited_member, facility_with_numbers, Change}
use Rattle.club_tables.proofs.Common.{member_with_quota, credited_limit, false, ◌&&◌, ◌==◌, All, and_parts, AllByRecursion, All-from_recursion, all_from_map}
use Rattle.club_tables.proofs.Common.{map-map, InLimits, facility_named, all_weaker, IsTrueOf, Option, State, Binary, Compare, is_true, Le}
use Rattle.club_tables.proofs.{Common.SuitingChangesKeepSound, CrashLemmas.{GoThrough, left_by}, MemberLemmas.{all_last, owner_is, same_slots, find_mapped}}
use Rattle.club_tables.proofs.{MemberLemmas.{AreBookingsOnce, total}, NumberLemmas.{few_in_rows, few_if_fits, facility_renumbered, Charged, member_charged}}
use Rattle.club_tables.proofs.{NumberLemmas.{charge_found, pays, few_by_rows, numbers_finds}, PutLemmas.{put_slot, use_put, same_itself, slot_once, the_slot}}
use Rattle.club_tables.proofs.{SelectLemmas.{Steps, pairs_mapped, contains_counts, find_some, found, WhenRan}, StoredLemmas.{bookings_stored, members_stored}}
use Rattle.club_tables.proofs.StoredLemmas.{facilities_stored, taken_more, member_stored, key_stored, revoke_stored, rotate_stored, close_stored, open_stored}
use Rattle.club_tables.proofs.StoredLemmas.{used_more, contains_mapped, minus, few_taken, put_there, few_persons, still_open, enough_if_fits, credited_little}
use Rattle.club_tables.proofs.{StoredLemmas.{enough_left, spent_little, slot_placed, the_named, facility_there}, UpdateLemmas.one_found}

module _ {S : Type 0} (g : Ghosts S) (old : Held S) (club : Club) (tables : HoldsClub (state g old).now club) where
  pub keys_once : AreKeysOnce tables.rows.keys
  keys_once = subst AreKeysOnce (sym tables.storage.keys) tables.sound.unique.keys

  pub bookings_once : AreBookingsOnce tables.rows.bookings
  bookings_once = subst AreBookingsOnce (sym tables.storage.bookings) tables.sound.unique.bookings

  pub facilities_once : AllPairs (λ (a : Facility) (b : Facility). a.name ≢ b.name) tables.rows.facilities
  facilities_once = rw tables.storage.facilities tables.sound.unique.facilities

  pub members_once : AreNamedOnce tables.rows.members
  members_once = rw tables.storage.members
      (pairs_mapped (λ (a : MemberRow) (b : MemberRow). name_of a ≢ name_of b) (member_row club) (λ row. row.member) club.members tables.sound.unique.members)

  -- The rows after a booking is inserted.
  abbrev pub booked_rows : Booking → Rows
  booked_rows booking = record tables.rows { bookings = tables.rows.bookings ++ booking ∷ [] }

  abbrev pub adds : Booking → ℕ → ℕ
  adds booking n = n + persons_taken booking

  abbrev pub filled_rows : Booking → Rows
  filled_rows booking = record (booked_rows booking) { slots = put_slot booking.slot (take_use (adds booking)) tables.rows.slots }

  pub filled : (booking : Booking) → IsBooking booking → Contains (map (λ (f : Facility). f.name) club.facilities) booking.slot.facility
      → Steps (ADD_TAKEN.now, name_values booking.slot ++ Int (pos (persons_taken booking)) ∷ []) (booked_rows booking) (filled_rows booking)
  filled booking row known =
      let few = few_taken club tables.sound booking.slot known in
      let persons = few_persons booking row in
      let held = tables.storage.slots booking.slot in
      slot_taken (booked_rows booking) tables.storage.once booking.slot (pos (persons_taken booking)) (adds booking)
      (λ none. let e : persons_taken booking ≡ 0 + persons_taken booking = omega arith in ap pos e)
      (subst (λ (u : SlotUse). binary (Arith Add) (whole u.taken) (Int (pos (persons_taken booking))) ≡ whole (u.taken + persons_taken booking)) (sym held)
      (total (taken_in booking.slot club.bookings) (persons_taken booking) (omega (arith, few, persons))))

  pub filled_use : (booking : Booking) (row : SlotRow) → row_of booking.slot (filled_rows booking).slots ≡ Some row
      → row.held.taken ≡ taken_in booking.slot (club.bookings ++ booking ∷ [])
  filled_use booking row is =
      grind (
        arith,
        use_put booking.slot (take_use (adds booking)) booking.slot tables.rows.slots,
        same_itself booking.slot,
        tables.storage.slots booking.slot,
        taken_more club booking booking.slot,
      )

  -- After the statements have run, the tables contain the rows of this club.
  abbrev LeaveRows : List BoundStatement → Club → Type 0
  LeaveRows all next = (last : Rows) × GoThrough g all tables.rows last × IsStoredAs next last

  one_step : (statement : BoundStatement) {last : Rows} {next : Club} → Steps statement tables.rows last → IsStoredAs next last
      → LeaveRows (statement ∷ []) next
  one_step statement step stored = (_, (_, λ a b. step (state g a) (state g b), refl), stored)

  three_steps : (one two three : BoundStatement) {second third last : Rows} {next : Club} → Steps one tables.rows second → Steps two second third
      → Steps three third last → IsStoredAs next last → LeaveRows (one ∷ two ∷ three ∷ []) next
  three_steps one two three step again finally stored =
      (_, (_, λ a b. step (state g a) (state g b), (_, λ a b. again (state g a) (state g b), (_, λ a b. finally (state g a) (state g b), refl))), stored)

  stored_key : (name : List ℕ) (key : Key) → key_named name club ≡ Some key → StoresKey name tables.rows.keys key
  stored_key name key h = rw tables.storage.keys h

  stored_member : (name : List ℕ) (member : Member) → member_named name club ≡ Some member → StoresMember name tables.rows.members (member_row club member)
  stored_member name member h = rw tables.storage.members (find_mapped _ (member_row club) club.members ∙ ap (option_map (member_row club)) h)

  owner_of : (member key : List ℕ) → IsOwnedBy member key club → (m : Member) × (member_named member club ≡ Some m) × (m.name ≡ member)
      × (used_by club m.name ≤ credited_limit)
  owner_of member key owns =
      let is_of : Member → Bool = λ m. bytes_eq m.name member in
      let named = All-contains (λ (k : Key). Contains (map (λ (m : Member). m.name) club.members) k.member) club.keys owns.0
      tables.sound.references.keys (found (λ (k : Key). bytes_eq k.name key) club.keys owns.0 owns.1).0 in
      let of_member = contains_mapped (λ (m : Member). m.name) club.members owns.0.member named in
      let passes : is_of of_member.0 ≡ true = (bytes_eq-Decides of_member.0.name member).1 (of_member.2 ∙ owns.2) in
      let one = find_some is_of club.members (contains_counts is_of club.members of_member.0 of_member.1 passes) in
      let here = found is_of club.members one.0 one.1 in
      let low = All-contains (λ (m : Member). used_by club m.name ≤ m.credited) club.members one.0 tables.sound.balances here.0 in
      let few = (All-contains IsMember club.members one.0 tables.sound.rows.members here.0).credited in
      (one.0, one.1, (bytes_eq-Decides one.0.name member).0 here.1, omega (arith, low, few))

  booking_through : (booking : Booking) (member : List ℕ) → FitsClub (InsertBooking booking member) club
      → LeaveRows (adding_booking booking member) (after (InsertBooking booking member) club)
  booking_through booking member fits =
      let limits = all_last IsBooking club.bookings booking (recursion_from_All IsBooking (club.bookings ++ booking ∷ []) fits.sound.rows.bookings) in
      let known = all_last (λ (b : Booking). Contains (map (λ (f : Facility). f.name) club.facilities) b.slot.facility) club.bookings booking
      (recursion_from_All _ (club.bookings ++ booking ∷ []) fits.sound.references.facilities) in
      let used : ℕ → ℕ = λ n. n + cost_of booking in
      let m = owner_of member booking.key fits.carries in
      let sum = total (used_by club m.0.name) (cost_of booking) (omega (arith, m.3, limits.charge)) in
      let mine = (bytes_eq-Decides m.0.name member).1 m.2 in
      let costs : used_by (after (InsertBooking booking member) club) m.0.name ≡ used_by club m.0.name + cost_of booking =
      grind (arith, used_more club tables.sound member booking fits.carries m.0, mine) in
      let enough = All-contains (λ (n : Member). used_by (after (InsertBooking booking member) club) n.name ≤ n.credited) club.members m.0 fits.sound.balances
      (found (λ (n : Member). bytes_eq n.name member) club.members m.0 m.1).0 in
      let can_pay : nat_le (used_by club m.0.name + cost_of booking) m.0.credited ≡ true = grind (arith, nat_tests) in
      let at = put_there booking.slot (take_use (adds booking)) tables.rows.slots in
      let at_is = has_found (λ (row : SlotRow). same_slot row.slot booking.slot) (put_slot booking.slot (take_use (adds booking)) tables.rows.slots) at.0
      at.1 in
      let same = same_slots at.0.slot booking.slot at_is.1 in
      let place = contains_mapped (λ (f : Facility). f.name) club.facilities booking.slot.facility known in
      let low = All-contains (λ (f : Facility). (slot : Slot) → slot.facility ≡ f.name → taken_in slot (club.bookings ++ booking ∷ []) ≤ f.places)
      club.facilities place.0 fits.sound.places place.1 booking.slot (sym place.2) in
      let taken_now = filled_use booking at.0 at.1 in
      let roomy : nat_le at.0.held.taken place.0.places ≡ true = grind (arith, nat_tests) in
      let it : Charged (filled_rows booking) members_once member (pos (cost_of booking)) booking.key booking.slot = record {
        row = member_row club m.0;
        stores = stored_member member m.0 m.1;
        pays_it = rw (sum, whole_to (used_by club m.0.name + cost_of booking) m.0.credited) can_pay;
        owner = fits.carries.0;
        known = stored_key booking.key fits.carries.0 fits.carries.1;
        own = fits.carries.2;
        at = at.0;
        among = at_is.0;
        facility = place.0;
        located = rw tables.storage.facilities (has_contained club.facilities place.0 place.1);
        room = grind (arith, nat_tests, bytes_eq-Decides, place.2, same, roomy);
      } in
      three_steps _ _ _ (booking_put tables.rows booking) (filled booking limits known)
      (member_charged (filled_rows booking) members_once member (pos (cost_of booking)) booking.key booking.slot it used sum)
      (bookings_stored club tables.rows tables.storage (λ bs. bs ++ booking ∷ []) member used booking.slot (adds booking)
      (used_more club tables.sound member booking fits.carries) (taken_more club booking))

  cancel_through : (booking : Booking) (member : List ℕ) (refund : ℕ) (fits : FitsClub (MarkCancelled booking member refund) club)
      → LeaveRows (cancelling booking member refund) (after (MarkCancelled booking member refund) club)
  cancel_through booking member refund fits =
      let persons = persons_of booking in
      let cancels = fits.carries.0 in
      let owns = fits.carries.1 in
      let change : List Booking → List Booking = map (cancelled_booking booking.key booking.number refund) in
      let booked : Rows = record tables.rows { bookings = change tables.rows.bookings } in
      let charged : Rows = record booked { members = map (used_row member (λ n. n - refund)) tables.rows.members } in
      let m = owner_of member booking.key owns in
      let mine = owner_is club tables.sound booking.key member m.0.name owns ∙ (bytes_eq-Decides m.0.name member).1 m.2 in
      let back = rw mine at (used_back club tables.sound booking cancels refund fits.sound m.0.name) in
      let second = member_used booked members_once member (neg_ℤ (pos refund)) booking.key owns.0 (stored_key booking.key owns.0 owns.1) owns.2
      (member_row club m.0) (stored_member member m.0 m.1) (λ n. n - refund)
      (minus (used_by club m.0.name) refund (omega (arith, back)) (omega (arith, m.3))) in
      let gone = rw (same_itself booking.slot) at (taken_back club tables.sound booking cancels refund fits.sound booking.slot) in
      let there_are : persons ≤ taken_in booking.slot club.bookings = omega (arith, gone) in
      let place = All-contains (λ (b : Booking). Contains (map (λ (f : Facility). f.name) club.facilities) b.slot.facility) club.bookings booking
      tables.sound.references.facilities (there club tables.sound booking cancels refund fits.sound).0 in
      let few = few_taken club tables.sound booking.slot place in
      let held = tables.storage.slots booking.slot in
      let third = slot_taken charged tables.storage.once booking.slot (neg_ℤ (pos persons)) (λ n. n - persons)
      (λ none. absurd (omega (arith, ap (λ (u : SlotUse). u.taken) (sym held ∙ none), there_are)))
      (subst (λ (u : SlotUse). binary (Arith Add) (whole u.taken) (Int (neg_ℤ (pos persons))) ≡ whole (u.taken - persons)) (sym held)
      (minus (taken_in booking.slot club.bookings) persons there_are (omega (arith, few)))) in
      three_steps _ _ _ (booking_cancelled tables.rows bookings_once booking refund (rw tables.storage.bookings cancels.0) cancels.1) second third
      (bookings_stored club tables.rows tables.storage change member (λ n. n - refund) booking.slot (λ n. n - persons)
      (used_less club tables.sound booking cancels refund fits.sound member owns) (taken_less club tables.sound booking cancels refund fits.sound))

  pub plan : (change : Change) → FitsClub change club → LeaveRows (statements_of change) (after change club)
  plan (InsertMember member) fits = one_step _ (member_put tables.rows member) (member_stored club tables.rows tables.storage tables.sound member fits.sound)
  plan (InsertFacility facility) fits =
      one_step _ (facility_put tables.rows facility) (facilities_stored club tables.rows tables.storage (λ fs. fs ++ facility ∷ []))
  plan (ReplaceNumbers name places price opens shuts) fits =
      let roomy = few_in_rows club tables.rows tables.storage name places (few_if_fits club name places price opens shuts fits) in
      one_step _ (facility_renumbered tables.rows facilities_once name places price opens shuts fits.carries.0
      (rw tables.storage.facilities fits.carries.1) roomy)
      (facilities_stored club tables.rows tables.storage (map (facility_with_numbers name places price opens shuts)))
  plan (InsertKey key) fits =
      one_step _ (key_put tables.rows key) (key_stored club tables.rows tables.storage tables.sound key fits.carries fits.sound)
  plan (AddCredit name points) fits =
      let m = fits.carries.0 in
      let here = found (λ (m : Member). bytes_eq m.name name) club.members m fits.carries.1 in
      let next = mapped_holds IsMember (credited_member name points) club.members m fits.sound.rows.members here.0 in
      let low : m.credited + points ≤ credited_limit = grind (arith, here.1, next.credited) in
      one_step _ (member_credited tables.rows members_once name points (member_row club m) (stored_member name m fits.carries.1)
      (total m.credited points (omega (arith, low))) (let small : nat_le (m.credited + points) 999_999_999 ≡ true = grind (arith, nat_tests) in small))
      (members_stored club tables.rows tables.storage (credited_member name points) (λ m. refl))
  plan (TakeCredit name points) fits =
      let m = fits.carries.0 in
      let enough = enough_if_fits club tables.sound name points m fits.carries.1 fits fits.carries.2 in
      let low = credited_little club tables.sound name points m fits.carries.1 in
      one_step _ (member_debited tables.rows members_once name points (member_row club m) (stored_member name m fits.carries.1) enough (omega (arith, low)))
      (members_stored club tables.rows tables.storage (debited_member name points) (λ m. refl))
  plan (ReplaceQuota name quota) fits =
      one_step _ (member_given tables.rows members_once name quota (member_row club fits.carries.0) (stored_member name fits.carries.0 fits.carries.1))
      (members_stored club tables.rows tables.storage (member_with_quota name quota) (λ m. refl))
  plan (MarkRevoked name) fits =
      one_step _ (key_revoked tables.rows keys_once name fits.carries.0 (stored_key name fits.carries.0 fits.carries.1))
      (revoke_stored club tables.rows tables.storage name)
  plan (ReplaceRoot name was root until) fits =
      let put : Rows = record tables.rows { olders = put_older name (good_until until was) tables.rows.olders } in
      let first = older_represents tables.rows tables.storage.olders_once name (good_until until was) in
      let second = root_set put keys_once name root was fits.carries.0 (stored_key name fits.carries.0 fits.carries.1) fits.carries.2 until in (
        _,
        (put, λ a b. first (state g a) (state g b), (_, λ a b. second (state g a) (state g b), refl)),
        rotate_stored club tables.rows tables.storage name root was until fits.carries,
      )
  plan (MarkClosed slot) fits =
      one_step _ (slot_closed tables.rows tables.storage.once slot (ap (λ (u : SlotUse). u.closed) (tables.storage.slots slot) ∙ still_open club slot fits))
      (close_stored club tables.rows tables.storage slot)
  plan (MarkOpen slot) fits =
      one_step _ (slot_opened tables.rows tables.storage.once slot) (open_stored club tables.rows tables.storage slot)
  plan (InsertBooking booking member) fits = booking_through booking member fits
  plan (MarkCancelled booking member refund) fits = cancel_through booking member refund fits

  pub made : (db : Database) (change : Change) → FitsClub change club → Ran g 1 (statements_of change) old db → HoldsClub db (after change club)
  made db change fits ran =
      let it = plan change fits in
      let holds_rows = left_by g (statements_of change) tables.rows it.0 it.1 (transaction_start old) ran.last tables.holds_rows ran.turns in
      rw ran.is (record { rows = it.0; holds_rows = holds_rows; storage = it.2; sound = fits.sound })

unnamed : {X : Type 0} (name : X → List ℕ) (n : List ℕ) (xs : List X) → AllByRecursion (λ x. bytes_eq n (name x) ≡ false) xs → All (λ x. name x ≢ n) xs
unnamed name n xs apart = All-from_recursion (λ x. name x ≢ n) xs (all_weaker _ _ (λ x other e. grind (arith, bytes_eq-Decides)) xs apart)

module _ {S : Type 0} (g : Ghosts S) (old : Held S) (club : Club) (tables : HoldsClub (state g old).now club) where
  when_ran : {statement : BoundStatement} {more : List BoundStatement} {db : Database} {P : State → State → ℕ → Type 0}
      → WhenRan statement tables.rows P → (ran : Ran g 1 (statement ∷ more) old db) → P (state g (transaction_start old)) (state g ran.turns.0) ran.turns.1
  when_ran each ran = each (state g (transaction_start old)) (state g ran.turns.0) ran.turns.1 tables.holds_rows ran.turns.2

  member_of : (p : MemberRow → Bool) (name : List ℕ) → (row : MemberRow) × StoresMember name tables.rows.members row × (p row ≡ true)
      → (m : Member) × (member_named name club ≡ Some m) × (p (member_row club m) ≡ true)
  member_of p name it = by (member_named name club) refl (simp (tables.storage.members, find_mapped) at it.1)
    where
      by : (o : Option Member) → member_named name club ≡ o → option_map (member_row club) o ≡ Some it.0
          → (m : Member) × (member_named name club ≡ Some m) × (p (member_row club m) ≡ true)
      by o is e = grind (arith, it.2)

  abbrev filled_club : Booking → Rows
  filled_club = filled_rows g old club tables

  record BookedBy (booking : Booking) (member : List ℕ) : Type 0 where
    free : AllByRecursion (λ (b : Booking). (bytes_eq booking.key b.key && booking.number == b.number) ≡ false) tables.rows.bookings
    charged : Charged (filled_club booking) (members_once g old club tables) member (pos (cost_of booking)) booking.key booking.slot

  booked_by : {db : Database} (booking : Booking) (member : List ℕ) → IsBooking booking → (ran : Ran g 1 (adding_booking booking member) old db)
      → BookedBy booking member
  booked_by booking member row ran =
      let t1 = ran.turns in
      let t2 = t1.3 in
      let t3 = t2.3 in
      let first = when_ran (booking_put tables.rows booking) ran in
      let known = rw tables.storage.facilities at (all_last _ tables.rows.bookings booking (booking_facilities first.0)) in
      let second = filled g old club tables booking row known (state g t1.0) (state g t2.0) t2.1 first.0 t2.2 in
      record {
        free = bookings_apart tables.rows booking first.0;
        charged = charge_found (filled_club booking) (members_once g old club tables) member (pos (cost_of booking)) booking.key booking.slot
            (keys_once g old club tables) (state g t2.0) (state g t3.0) t3.1 second.0 t3.2 t3.4;
      }

  booking_suits : (booking : Booking) (member : List ℕ) → IsBooking booking → BookedBy booking member → SuitsBooking booking club
  booking_suits booking member within by =
      let it = by.charged in
      let m = member_of (pays (filled_club booking) (members_once g old club tables) member (pos (cost_of booking)) booking.key booking.slot) member
      (it.row, it.stores, it.pays_it) in
      let used = used_by club m.0.name + cost_of booking in
      let low = credited_little club tables.sound member 0 m.0 m.1 in
      let few = spent_little club tables.sound member 0 m.0 m.1 in
      let paid = rw (total (used_by club m.0.name) (cost_of booking) (omega (arith, low, few, within.charge)), whole_to used m.0.credited) at m.2 in
      let room : (it.facility.name ≡ booking.slot.facility) × (it.at.slot ≡ booking.slot) × (it.at.held.taken ≤ it.facility.places) =
      grind (arith, nat_tests, bytes_eq-Decides, it.room) in
      let once = slot_once booking.slot (take_use (adds g old club tables booking)) tables.rows.slots tables.storage.once in
      let taken = filled_use g old club tables booking it.at (the_slot booking.slot _ it.at once it.among room.1) in
      let there = simp tables.storage.facilities at it.located in
      record {
        row = within;
        free = All-from_recursion (λ (b : Booking). ¬ ((b.key ≡ booking.key) × (b.number ≡ booking.number))) club.bookings
            (all_weaker _ _ (λ b other same. grind (arith, nat_tests, bytes_eq-Decides)) club.bookings (rw tables.storage.bookings at by.free));
        key = it.owner;
        known = simp tables.storage.keys at it.known;
        payer = m.0;
        owned = rw it.own m.1;
        paid = grind (arith, nat_tests, paid);
        facility = it.facility;
        located = subst (λ n. facility_named n club ≡ Some it.facility) room.0
            (the_named (λ (f : Facility). f.name) club.facilities it.facility tables.sound.unique.facilities there);
        placed = rw taken at room.2;
      }

  fits : (db : Database) (change : Change) → InLimits change → Ran g 1 (statements_of change) old db → IsTrueOf change club × Suits change club
  fits db (InsertMember member) within ran =
      let apart = rw tables.storage.members at (members_apart tables.rows (new_row member) (when_ran (member_put tables.rows member) ran).0) in
      (tt, (within, unnamed (λ (m : Member). m.name) member.name club.members (all_from_map _ (member_row club) club.members apart)))
  fits db (AddCredit name points) within ran =
      let m = member_of _ name (one_found (when_ran (credit_finds tables.rows (members_once g old club tables) name points) ran) ran.turns.4) in
      let few = credited_little club tables.sound name points m.0 m.1 in
      let sum : is_true (binary (Compare Le Binary) (binary (Arith Add) (whole m.0.credited) (whole points)) (whole 999_999_999)) ≡ true =
      (and_parts _ _ (and_parts _ _ m.2).1).0 in
      let low = rw (total m.0.credited points (omega (arith, few, within)), whole_to (m.0.credited + points) 999_999_999) at sum in
      ((m.0, m.1), (m.0, m.1, grind (arith, nat_tests, low)))
  fits db (TakeCredit name points) within ran =
      let m = member_of _ name (one_found (when_ran (debit_finds tables.rows (members_once g old club tables) name points) ran) ran.turns.4) in
      let left = enough_left club tables.sound name points m.0 m.1 within (and_parts _ _ (and_parts _ _ m.2).1).0 in
      ((m.0, m.1, omega (arith, left)), (m.0, m.1, left))
  fits db (ReplaceQuota name quota) within ran =
      let m = member_of _ name (one_found (when_ran (quota_finds tables.rows (members_once g old club tables) name quota) ran) ran.turns.4) in
      ((m.0, m.1), within)
  fits db (InsertFacility facility) within ran =
      let apart = rw tables.storage.facilities at (facilities_apart tables.rows facility (when_ran (facility_put tables.rows facility) ran).0) in
      (tt, (within, unnamed (λ (f : Facility). f.name) facility.name club.facilities apart))
  fits db (ReplaceNumbers name places price opens shuts) within ran =
      let it = one_found (when_ran (numbers_finds tables.rows (facilities_once g old club tables) name places price opens shuts) ran) ran.turns.4 in
      ((it.0, simp tables.storage.facilities at it.1), (within, few_by_rows club tables.rows tables.storage name places (and_parts _ _ it.2).1))
  fits db (InsertKey key) within ran =
      let put = when_ran (key_put tables.rows key) ran in
      let apart = rw tables.storage.keys at (keys_apart tables.rows key put.0) in
      let known = simp (tables.storage.members, map-map) at (all_last _ tables.rows.keys key (key_members put.0)) in
      (within.1, (within.0, unnamed (λ (k : Key). k.name) key.name club.keys apart, known))
  fits db (MarkRevoked name) within ran =
      let one = one_found (when_ran (revoke_finds tables.rows (keys_once g old club tables) name) ran) ran.turns.4 in
      ((one.0, simp tables.storage.keys at one.1), tt)
  fits db (ReplaceRoot name was root until) within ran =
      let put = when_ran (older_represents tables.rows tables.storage.olders_once name (good_until until was)) ran in
      let t1 = ran.turns in
      let t2 = t1.3 in
      let one = one_found (root_finds _ (keys_once g old club tables) name root was (state g t1.0) (state g t2.0) t2.1 put.0 t2.2) t2.4 in
      ((one.0, simp tables.storage.keys at one.1, (bytes_eq-Decides one.0.root was).0 (and_parts _ _ one.2).1), within)
  fits db (MarkClosed slot) within ran =
      let opened = when_ran (slot_was_open tables.rows tables.storage.once slot) ran ran.turns.4 in
      let put = when_ran (slot_closed tables.rows tables.storage.once slot opened) ran in
      let placed = slot_placed club.facilities tables.rows tables.storage.facilities slot close_use put.0 in
      (tt, (within, sym (ap (λ (u : SlotUse). u.closed) (tables.storage.slots slot)) ∙ opened, placed))
  fits db (MarkOpen slot) within ran =
      let put = when_ran (slot_opened tables.rows tables.storage.once slot) ran in
      (facility_there club slot.facility (slot_placed club.facilities tables.rows tables.storage.facilities slot open_use put.0), tt)
  fits db (InsertBooking booking member) within ran =
      let by = booked_by booking member within ran in
      let it = by.charged in
      ((it.owner, simp tables.storage.keys at it.known, it.own), booking_suits booking member within by)
  fits db (MarkCancelled booking member refund) within ran =
      let t1 = ran.turns in
      let t2 = t1.3 in
      let given = when_ran (cancel_found tables.rows (bookings_once g old club tables) booking refund) ran t1.4 in
      let first = when_ran (booking_cancelled tables.rows (bookings_once g old club tables) booking refund given.0 given.1) ran in
      let on_record = simp tables.storage.bookings at given.0 in
      let next : Rows = record tables.rows { bookings = map (cancelled_booking booking.key booking.number refund) tables.rows.bookings } in
      let once = members_once g old club tables in
      let finds = used_finds next once member (neg_ℤ (pos refund)) booking.key (state g t1.0) (state g t2.0) t2.1 first.0 t2.2 in
      let owner = owned_key next once member (neg_ℤ (pos refund)) booking.key (keys_once g old club tables) (and_parts _ _ (one_found finds t2.4).2).1 in
      (((on_record, given.1), (owner.0, subst (λ keys. StoresKey booking.key keys owner.0) tables.storage.keys owner.1, owner.2)), (on_record, within))

  pub fits_if_ran : SuitingChangesKeepSound → (db : Database) (change : Change) → InLimits change → Ran g 1 (statements_of change) old db → FitsClub change club
  fits_if_ran law db change within ran =
      let it = fits db change within ran in
      record { carries = it.0; sound = law club change tables.sound it.1 }
