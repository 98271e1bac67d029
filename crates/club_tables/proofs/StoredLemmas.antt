-- Lemmas about the rows that the tables store for the club after each change.
use Rattle.club_core.specs.declared.change.Change.TheVariants.{MarkClosed}
use Rattle.club_tables.proofs.AddLemmas.{new_row, close_use, open_use, take_use, put_older, older_put, put_once as olders_once, slot_facilities}
use Rattle.club_tables.proofs.{ChangeLemmas.{mapped_holds, whole_to, used_row}, Common.{Option, rules, ◌≡◌, ℕ, ◌≤◌, pos, neg_ℤ, Bool, List, Some, refl, sym}}
use Rattle.club_tables.proofs.Common.{◌∙◌, ◌≢◌, ◌-◌, true, if◌then◌else◌, [], ◌∷◌, ◌++◌, map, Contains, ap, arith, All-contains, bytes_eq-Decides, find}
use Rattle.club_tables.proofs.Common.{bytes_eq, binary, Arith, Add, ◌<◌, ◌^◌, SlotUse, IsFacility, Int, Club, IsSound, taken_in, same_slot, IsBooking, Booking}
use Rattle.club_tables.proofs.Common.{Facility, Slot, whole, persons_taken, SlotRow, AllPairs, Has, has_kept, slice_get, filter, all_has, has_found, Database}
use Rattle.club_tables.proofs.Common.{HoldsRows, Rows, subst, FitsClub, is_closed, AllByRecursion, false, list_any, row_of, contains_had, has_contained, ◌+◌}
use Rattle.club_tables.proofs.Common.{Binary, Compare, Member, member_named, MemberRow, is_true, member_row, used_by, nat_tests, IsMember, TakeCredit}
use Rattle.club_tables.proofs.Common.{debited_member, is_some, has_mapped, HasFacility, places_limit, Le, not, ◌&&◌, cond, None, sum_by, option_and_then}
use Rattle.club_tables.proofs.Common.{map-append, list_any-append, or-true, or-false, recursion_from_All, Key, OlderRoot, InsertMember, InsertKey, MarkRevoked}
use Rattle.club_tables.proofs.Common.{ReplaceRoot, InsertBooking, after, revoked_key, good_until, rotated_key, persons_of, key_named, is_key_of, slot_use}
use Rattle.club_tables.proofs.Common.{older_root_of, IsOwnedBy, HasRoot, is_in, cost_of, OlderRow, IsStoredAs, older_by, map-map, MarkOpen, closed_but}
use Rattle.club_tables.proofs.{MemberLemmas.{apart_last, map_agree, not_among, unequal, sum_more, owner_is, one_named, same_slots, total}, PutLemmas.not_same}
use Rattle.club_tables.proofs.PutLemmas.{put_slot, changed, new_row as slot_row, same_itself, by_put, same_row, use_put, slot_once}
use Rattle.club_tables.proofs.SelectLemmas.{apart_from_pairs, find_first, only, contains_counts, find_some, found, none_pass, filter_same, none_of}
use Rattle.club_tables.proofs.UpdateLemmas.{each_of}

pub contains_mapped : {X Y : Type 0} (f : X → Y) (xs : List X) (y : Y) → Contains (map f xs) y → (x : X) × Contains xs x × (f x ≡ y)
contains_mapped f xs y has = let it = has_mapped f xs y (has_contained (map f xs) y has) in (it.0, contains_had xs it.0 it.1, sym it.2)

pub minus : (m r : ℕ) → r ≤ m → m < 2 ^ 63 → binary (Arith Add) (whole m) (Int (neg_ℤ (pos r))) ≡ whole (m - r)
unfolding binary
minus m r low small = search rules

-- The number of persons in a slot is at most the highest number of places that a facility may have.
pub few_taken : (club : Club) → IsSound club → (slot : Slot) → Contains (map (λ (f : Facility). f.name) club.facilities) slot.facility
    → taken_in slot club.bookings ≤ places_limit
few_taken club sound slot has =
    let at = contains_mapped (λ (f : Facility). f.name) club.facilities slot.facility has in
    let low = All-contains (λ (f : Facility). (s : Slot) → s.facility ≡ f.name → taken_in s club.bookings ≤ f.places) club.facilities at.0 sound.places at.1
    slot (sym at.2) in
    omega (arith, low, (All-contains IsFacility club.facilities at.0 sound.rows.facilities at.1).few_places)

pub put_there : (slot : Slot) (change : SlotUse → SlotUse) (rows : List SlotRow) → (x : SlotRow) × (row_of slot (put_slot slot change rows) ≡ Some x)
put_there slot change rows =
    let put = by_put (λ (row : SlotRow). row.slot) same_slot same_slots same_itself slot (changed slot change) (λ row. refl) (slot_row slot change) refl is_some
    (λ _. true) (λ row passes. refl) (same_row slot change) refl slot rows in
    some_of (row_of slot (put_slot slot change rows)) (put ∙ ap (λ b. if b then true else is_some (row_of slot rows)) (same_itself slot))
  where
    some_of : (o : Option SlotRow) → is_some o ≡ true → (x : SlotRow) × (o ≡ Some x)
    some_of o some = grind arith

pub slot_placed : {db : Database} (facilities : List Facility) (rows : Rows) → rows.facilities ≡ facilities → (slot : Slot) (change : SlotUse → SlotUse)
    → HoldsRows db (record rows { slots = put_slot slot change rows.slots }) → Contains (map (λ (f : Facility). f.name) facilities) slot.facility
slot_placed facilities rows same slot change holds =
    let at = put_there slot change rows.slots in
    let at_is = has_found (λ (row : SlotRow). same_slot row.slot slot) (put_slot slot change rows.slots) at.0 at.1 in
    let known = all_has _ (put_slot slot change rows.slots) at.0 (slot_facilities holds) at_is.0 in
    rw (same, same_slots at.0.slot slot at_is.1) at known

pub facility_there : (club : Club) (name : List ℕ) → Contains (map (λ (f : Facility). f.name) club.facilities) name → HasFacility name club
facility_there club name named =
    let is_of : Facility → Bool = λ f. bytes_eq f.name name in
    let there = contains_mapped (λ (f : Facility). f.name) club.facilities name named in
    find_some is_of club.facilities (contains_counts is_of club.facilities there.0 there.1 ((bytes_eq-Decides there.0.name name).1 there.2))

-- A change that closes a slot fits the club only if the slot is open.
pub still_open : (club : Club) (slot : Slot) → FitsClub (MarkClosed slot) club → is_closed slot club ≡ false
still_open club slot fits =
    let apart = apart_last (λ (a : Slot) (b : Slot). a ≢ b) club.closed slot
    (apart_from_pairs (λ (a : Slot) (b : Slot). a ≢ b) (club.closed ++ slot ∷ []) fits.sound.unique.closed) in
    go club.closed apart
  where
    go : (slots : List Slot) → AllByRecursion (λ (other : Slot). other ≢ slot) slots → list_any (λ other. same_slot other slot) slots ≡ false
    go [] apart = refl
    go (other ∷ slots) apart = rw (not_same other slot apart.0) (go slots apart.1)

pub the_named : {X : Type 0} (name : X → List ℕ) (xs : List X) (x : X) → AllPairs (λ a b. name a ≢ name b) xs → Has xs x
    → find (λ y. bytes_eq (name y) (name x)) xs ≡ Some x
the_named {X} name xs x unique has =
    let is_of : X → Bool = λ y. bytes_eq (name y) (name x) in
    find_first is_of xs ∙ ap (λ ys. slice_get ys 0) (only (filter is_of xs) x (one_named name (name x) xs unique)
    (has_kept is_of xs x has ((bytes_eq-Decides (name x) (name x)).1 refl)))

pub few_persons : (booking : Booking) → IsBooking booking → persons_taken booking ≤ 50
few_persons booking row = let guests : booking.guests ≤ 49 = row.guests in grind arith

-- The member of this row has at least this many unspent points.
abbrev pub leaves : ℕ → MemberRow → Bool
leaves points row = is_true (binary (Compare Le Binary) (binary (Arith Add) (whole row.used) (whole points)) (whole row.member.credited))

module _ (club : Club) (sound : IsSound club) (name : List ℕ) (points : ℕ) (member : Member) (named : member_named name club ≡ Some member) where
  there : Contains club.members member × (bytes_eq member.name name ≡ true)
  there = found (λ (m : Member). bytes_eq m.name name) club.members member named

  pub credited_little : member.credited ≤ 999_999_999
  credited_little = (All-contains IsMember club.members member sound.rows.members there.0).credited

  pub spent_little : used_by club member.name ≤ member.credited
  spent_little = All-contains (λ (m : Member). used_by club m.name ≤ m.credited) club.members member sound.balances there.0

  pub enough_left : points < 2 ^ 32 → leaves points (member_row club member) ≡ true → used_by club member.name + points ≤ member.credited
  enough_left few passes =
      let is = rw (total (used_by club member.name) points (omega (arith, few, spent_little, credited_little)), whole_to) at passes in
      grind (arith, nat_tests)

  pub enough_if_fits : FitsClub (TakeCredit name points) club → points ≤ member.credited → used_by club member.name + points ≤ member.credited
  enough_if_fits fits low =
      let left = mapped_holds (λ (m : Member). used_by club m.name ≤ m.credited) (debited_member name points) club.members member fits.sound.balances there.0 in
      grind (arith, there.1, low)

-- Lemmas about the rows of members.

used_none : (club : Club) (name : List ℕ) → AllByRecursion (λ (key : Key). bytes_eq key.member name ≡ false) club.keys → used_by club name ≡ 0
used_none club name none = simp (none_pass (λ (key : Key). bytes_eq key.member name) club.keys none, none_of)

keys_of_none : (club : Club) → IsSound club → (name : List ℕ) → AllByRecursion (λ (m : Member). m.name ≢ name) club.members
    → AllByRecursion (λ (key : Key). bytes_eq key.member name ≡ false) club.keys
keys_of_none club sound name apart = recursion_from_All _ club.keys (λ k d low. unequal _ name (λ e.
    not_among (λ (m : Member). m.name) club.members name apart
    (subst (Contains (map (λ (m : Member). m.name) club.members)) e (sound.references.keys k d low))))

pub member_stored : (club : Club) (rows : Rows) → IsStoredAs club rows → IsSound club → (member : Member) → IsSound (after (InsertMember member) club)
    → IsStoredAs (after (InsertMember member) club) (record rows { members = rows.members ++ new_row member ∷ [] })
member_stored club rows stored sound member fits =
    let R : Member → Member → Type 0 = λ a b. a.name ≢ b.name in
    let apart = apart_last R club.members member (apart_from_pairs R (club.members ++ member ∷ []) fits.unique.members) in
    let none = used_none club member.name (keys_of_none club sound member.name apart) in
    let members = ap (λ ms. ms ++ new_row member ∷ []) stored.members ∙ ap (λ n. map (member_row club) club.members
    ++ record { member = member; used = n } ∷ []) (sym none) ∙ sym (map-append (member_row club) club.members (member ∷ [])) in
    search rules

pub members_stored : (club : Club) (rows : Rows) → IsStoredAs club rows → (change : Member → Member) → ((m : Member) → (change m).name ≡ m.name)
    → IsStoredAs (record club { members = map change club.members })
    (record rows { members = map (λ (row : MemberRow). record row { member = change row.member }) rows.members })
members_stored club rows stored change kept =
    let next : Club = record club { members = map change club.members } in
    let edit : MemberRow → MemberRow = λ row. record row { member = change row.member } in
    let members = ap (map edit) stored.members ∙ map-map edit (member_row club) club.members ∙ map_agree _ (λ m. member_row next (change m)) (λ m.
    ap (λ n. let row : MemberRow = record { member = change m; used = used_by club n } in row) (sym (kept m))) club.members
    ∙ sym (map-map (member_row next) change club.members) in
    search rules

pub facilities_stored : (club : Club) (rows : Rows) → IsStoredAs club rows → (change : List Facility → List Facility)
    → IsStoredAs (record club { facilities = change club.facilities }) (record rows { facilities = change rows.facilities })
facilities_stored club rows stored change = let facilities = ap change stored.facilities in search rules

keys_stored : (club : Club) (rows : Rows) → IsStoredAs club rows → (change : List Key → List Key) (olders : List OlderRow)
    → ((name : List ℕ) → AllByRecursion (λ (b : Booking).
    list_any (λ (key : Key). bytes_eq key.name b.key) (filter (λ (key : Key). bytes_eq key.member name) (change club.keys)) ≡ is_key_of name club b.key)
    club.bookings) → ((name : List ℕ) → older_by name olders ≡ older_root_of name (record club { keys = change club.keys }))
    → AllPairs (λ (a : OlderRow) (b : OlderRow). a.key ≢ b.key) olders
    → IsStoredAs (record club { keys = change club.keys }) (record rows { keys = change rows.keys; olders = olders })
keys_stored club rows stored change olders owned roots olders_once =
    let members = stored.members ∙ map_agree (member_row club) (member_row (record club { keys = change club.keys })) (λ (m : Member).
    ap (λ n. let row : MemberRow = record { member = m; used = n } in row) (sym (ap (sum_by cost_of) (filter_same _ _ club.bookings (owned m.name)))))
    club.members in
    let keys = ap change stored.keys in
    search rules

owned_more : (names owns : Key → Bool) (keys : List Key) (key : Key) → names key ≡ false
    → list_any names (filter owns (keys ++ key ∷ [])) ≡ list_any names (filter owns keys)
owned_more names owns [] key other = grind arith
owned_more names owns (k ∷ keys) key other = grind (arith, owned_more names owns keys key other)

older_pushed : (name : List ℕ) (keys : List Key) (key : Key) → key.older ≡ None
    → option_and_then (λ (k : Key). k.older) (find (λ (k : Key). bytes_eq k.name name) (keys ++ key ∷ []))
    ≡ option_and_then (λ (k : Key). k.older) (find (λ (k : Key). bytes_eq k.name name) keys)
older_pushed name [] key new = grind arith
older_pushed name (k ∷ keys) key new = grind (arith, older_pushed name keys key new)

older_mapped : (f : Key → Key) → ((key : Key) → (f key).name ≡ key.name) → (name : List ℕ) (keys : List Key)
    → option_and_then (λ (k : Key). k.older) (find (λ (k : Key). bytes_eq k.name name) (map f keys))
    ≡ option_and_then (λ (k : Key). (f k).older) (find (λ (k : Key). bytes_eq k.name name) keys)
older_mapped f named name [] = refl
older_mapped f named name (k ∷ keys) = grind (arith, named k, older_mapped f named name keys)

pub key_stored : (club : Club) (rows : Rows) → IsStoredAs club rows → IsSound club → (key : Key) → key.older ≡ None → IsSound (after (InsertKey key) club)
    → IsStoredAs (after (InsertKey key) club) (record rows { keys = rows.keys ++ key ∷ [] })
key_stored club rows stored sound key new fits =
    let R : Key → Key → Type 0 = λ a b. a.name ≢ b.name in
    let apart = apart_last R club.keys key (apart_from_pairs R (club.keys ++ key ∷ []) fits.unique.keys) in
    keys_stored club rows stored (λ ks. ks ++ key ∷ []) rows.olders (λ name. recursion_from_All _ club.bookings (λ k d low.
    owned_more _ (λ (k : Key). bytes_eq k.member name) club.keys key (unequal key.name _ (λ e.
    not_among (λ (k : Key). k.name) club.keys key.name apart
    (subst (Contains (map (λ (k : Key). k.name) club.keys)) (sym e) (sound.references.bookings k d low))))))
    (λ name. stored.olders name ∙ sym (older_pushed name club.keys key new)) stored.olders_once

owned_mapped : (names owns : Key → Bool) (f : Key → Key) → ((key : Key) → names (f key) ≡ names key) → ((key : Key) → owns (f key) ≡ owns key)
    → (keys : List Key) → list_any names (filter owns (map f keys)) ≡ list_any names (filter owns keys)
owned_mapped names owns f named owned [] = refl
owned_mapped names owns f named owned (k ∷ keys) = grind (arith, named k, owned k, owned_mapped names owns f named owned keys)

owned_still : (club : Club) (f : Key → Key) → ((key : Key) → (f key).name ≡ key.name) → ((key : Key) → (f key).member ≡ key.member) → (owner : List ℕ)
    → AllByRecursion (λ (b : Booking). list_any (λ (k : Key). bytes_eq k.name b.key) (filter (λ (k : Key). bytes_eq k.member owner) (map f club.keys))
    ≡ is_key_of owner club b.key) club.bookings
owned_still club f named kept owner = each_of _ (λ (b : Booking).
    owned_mapped (λ (k : Key). bytes_eq k.name b.key) (λ (k : Key). bytes_eq k.member owner) f (λ k. ap (λ n. bytes_eq n b.key) (named k))
    (λ k. ap (λ n. bytes_eq n owner) (kept k)) club.keys) club.bookings

pub revoke_stored : (club : Club) (rows : Rows) → IsStoredAs club rows → (name : List ℕ)
    → IsStoredAs (after (MarkRevoked name) club) (record rows { keys = map (revoked_key name) rows.keys })
revoke_stored club rows stored name =
    keys_stored club rows stored (map (revoked_key name)) rows.olders (owned_still club (revoked_key name) (λ k. refl) (λ k. refl))
    (λ n. stored.olders n ∙ sym (older_mapped (revoked_key name) (λ k. refl) n club.keys)) stored.olders_once

pub rotate_stored : (club : Club) (rows : Rows) → IsStoredAs club rows → (name root was : List ℕ) (until : ℕ) → HasRoot name was club
    → IsStoredAs (after (ReplaceRoot name was root until) club) (record rows {
      keys = map (rotated_key name root until) rows.keys;
      olders =
          put_older name (good_until until was) rows.olders;
    })
rotate_stored club rows stored name root was until has =
    keys_stored club rows stored (map (rotated_key name root until)) (put_older name (good_until until was) rows.olders)
    (owned_still club (rotated_key name root until) (λ k. refl) (λ k. refl)) (λ n.
    older_put name (good_until until was) n rows.olders
    ∙ ap (λ o. let returned : Option OlderRoot = if bytes_eq name n then Some (good_until until was) else o in
    returned) (stored.olders n) ∙ by_name n ∙ sym (older_mapped (rotated_key name root until) (λ k. refl) n club.keys))
    (olders_once name (good_until until was) rows.olders stored.olders_once)
  where
    by_name : (n : List ℕ) → (if bytes_eq name n then Some (good_until until was) else older_root_of n club)
        ≡ option_and_then (λ (k : Key). (rotated_key name root until k).older) (key_named n club)
    by_name n =
        let named = found (λ (k : Key). bytes_eq k.name n) club.keys in
        grind (arith, bytes_eq-Decides, has.1, has.2)

-- Lemmas about the rows of slots.

pub slots_stored : (club : Club) (rows : Rows) → IsStoredAs club rows → (slot : Slot) (change : SlotUse → SlotUse) (closed : List Slot)
    → ((s : Slot) → (if same_slot slot s then change (slot_use club s) else slot_use club s)
    ≡ record { taken = taken_in s club.bookings; closed = list_any (λ other. same_slot other s) closed })
    → IsStoredAs (record club { closed = closed }) (record rows { slots = put_slot slot change rows.slots })
slots_stored club rows stored slot change closed uses =
    let slots = λ (s : Slot). use_put slot change s rows.slots
    ∙ ap (λ u. let v : SlotUse = if same_slot slot s then change u else u in v) (stored.slots s) ∙ uses s in
    let once = slot_once slot change rows.slots stored.once in
    search rules

pub close_stored : (club : Club) (rows : Rows) → IsStoredAs club rows → (slot : Slot)
    → IsStoredAs (after (MarkClosed slot) club) (record rows { slots = put_slot slot close_use rows.slots })
close_stored club rows stored slot =
    slots_stored club rows stored slot close_use (club.closed ++ slot ∷ []) (λ s. grind (arith, list_any-append, or-true, or-false))

still_closed : (slot s : Slot) (closed : List Slot) → list_any (λ other. same_slot other s) (closed_but slot closed)
    ≡ (if same_slot slot s then false else list_any (λ other. same_slot other s) closed)
still_closed slot s [] = grind arith
still_closed slot s (other ∷ closed) =
    grind (arith, same_slots slot s, same_slots other s, same_slots other slot, same_itself slot, same_itself s, still_closed slot s closed)

pub open_stored : (club : Club) (rows : Rows) → IsStoredAs club rows → (slot : Slot)
    → IsStoredAs (after (MarkOpen slot) club) (record rows { slots = put_slot slot open_use rows.slots })
open_stored club rows stored slot =
    slots_stored club rows stored slot open_use (closed_but slot club.closed) (λ s. grind (arith, still_closed slot s club.closed))

-- Lemmas about the rows of bookings.

abbrev pub totals_rows : Rows → (List Booking → List Booking) → List ℕ → (ℕ → ℕ) → Slot → (ℕ → ℕ) → Rows
totals_rows rows change member used slot taken = record rows {
  members = map (used_row member used) rows.members;
  bookings = change rows.bookings;
  slots = put_slot slot (take_use taken) rows.slots;
}

added_if : (b : Bool) (all one more : ℕ) → more ≡ all + cond b one 0 → (if b then all + one else all) ≡ more
added_if b all one more is = grind arith

pub used_more : (club : Club) → IsSound club → (member : List ℕ) (booking : Booking) → IsOwnedBy member booking.key club → (m : Member)
    → used_row member (λ n. n + cost_of booking) (member_row club m) ≡ member_row (after (InsertBooking booking member) club) m
used_more club sound member booking owned m =
    ap (λ n. let row : MemberRow = record { member = m; used = n } in row) (added_if (bytes_eq m.name member) (used_by club m.name) (cost_of booking) _
    (sum_more cost_of (λ (b : Booking). is_key_of m.name club b.key) club.bookings booking
    ∙ ap (λ b. used_by club m.name + cond b (cost_of booking) 0) (owner_is club sound booking.key member m.name owned)))

pub taken_more : (club : Club) (booking : Booking) (s : Slot) → taken_in s (club.bookings ++ booking ∷ [])
    ≡ (if same_slot booking.slot s then taken_in s club.bookings + persons_taken booking else taken_in s club.bookings)
taken_more club booking s =
    sym (added_if (same_slot booking.slot s) (taken_in s club.bookings) (persons_taken booking) _ (sum_more persons_of (is_in s) club.bookings booking
    ∙ ap (λ n. taken_in s club.bookings + n) (counted booking.cancelled (same_slot booking.slot s) (persons_of booking))))
  where
    counted : (c b : Bool) (n : ℕ) → cond (not c && b) n 0 ≡ cond b (if c then 0 else n) 0
    counted c b n = grind arith

recounted_use : (club : Club) (s : Slot) (next : ℕ → ℕ) (b : Bool) (taken : ℕ)
    → taken ≡ (if b then next (taken_in s club.bookings) else taken_in s club.bookings)
    → (if b then take_use next (slot_use club s) else slot_use club s) ≡ record { taken = taken; closed = is_closed s club }
recounted_use club s next b taken is = grind arith

pub bookings_stored : (club : Club) (rows : Rows) → IsStoredAs club rows → (change : List Booking → List Booking) (member : List ℕ) (used : ℕ → ℕ)
    (slot : Slot) (taken : ℕ → ℕ) → ((m : Member) → used_row member used (member_row club m) ≡ member_row (record club { bookings = change club.bookings }) m)
    → ((s : Slot) → taken_in s (change club.bookings) ≡ (if same_slot slot s then taken (taken_in s club.bookings) else taken_in s club.bookings))
    → IsStoredAs (record club { bookings = change club.bookings }) (totals_rows rows change member used slot taken)
bookings_stored club rows stored change member used slot taken costs persons =
    let members = ap (map (used_row member used)) stored.members ∙ map-map (used_row member used) (member_row club) club.members
    ∙ map_agree _ (member_row (record club { bookings = change club.bookings })) costs club.members in
    let bookings = ap change stored.bookings in
    let slots = λ (s : Slot). use_put slot (take_use taken) s rows.slots
    ∙ ap (λ u. let v : SlotUse = if same_slot slot s then take_use taken u else u in v) (stored.slots s)
    ∙ recounted_use club s taken (same_slot slot s) (taken_in s (change club.bookings)) (persons s) in
    let once = slot_once slot (take_use taken) rows.slots stored.once in
    search rules
