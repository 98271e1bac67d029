-- Lemmas for the proofs that suitable changes and the steps of a run keep a club sound.
use Rattle.club_core.specs.declared.request.Request.TheVariants as asked
use Rattle.std.proofs.Common.{◌≡◌, ℕ, ◌≤◌, Bool, false, List, [], ◌∷◌, All, filter, find, sum_by, ap, arith, Option, Some, None, refl, ◌∙◌, subst, ◌≢◌, ◌++◌}
use Rattle.std.proofs.{Common.{get_or, map, Contains, sym, Ok, Result}, lemmas.{Bool.Decides.nat_tests, List.Elements.{All-weaker, All-nil, All-cons}}}
use Rattle.std.proofs.lemmas.List.{Elements.{All-contains, All-push, All-map, All-filter, All-head, All-tail}, Kept.AllPairs-filter, Quantifiers.all_pairs_push}
use Rattle.std.{proofs.lemmas.{Simd.map-map, Slice.Eq.bytes_eq-Decides}, specs.{List.fold, Prelude.max, Str.bytes_eq}}
use Rattle.club_core.specs.After.{facility_with_numbers, debited_member, credited_member, revoked_key, rotated_key, after, cancelled_booking, member_with_quota}
use Rattle.club_core.specs.{Answer.verdict_in, Club.{is_at, most_taken_in, is_in, taken_in, member_named, cost_of, Club, keys_of, is_key_of, bookings_of}}
use Rattle.club_core.specs.{Club.{IsSound, HasReferences, key_named}, Office.{IsCommand, office_verdict}, Request.Words, Run.{command_outcome, IsRequest}}
use Rattle.club_core.specs.{Run.{IsEvent, after_change, Asked, Commanded, step}, Store.IsTrueOf, declared.change.Change.{Change, TheVariants.MarkClosed}}
use Rattle.club_core.specs.declared.change.Change.TheVariants.{MarkCancelled, ReplaceNumbers, AddCredit, TakeCredit, MarkOpen, ReplaceQuota, InsertMember}
use Rattle.club_core.specs.declared.{change.Change.TheVariants.{InsertFacility, InsertKey, MarkRevoked, ReplaceRoot, InsertBooking}, command.Command.Command}
use Rattle.club_core.specs.declared.command.Command.TheVariants.{CloseSlot, CancelBooking, SetFacility, Debit, AddMember, Credit, AddFacility, AddKey}
use Rattle.club_core.specs.declared.{command.{Command.TheVariants.{RevokeKey, RotateKey, OpenSlot, SetQuota}, OfficeFault.OfficeFault}, verdict.Verdict.Verdict}
use Rattle.club_laws.proofs.AnswerCases.{Knows, Books, written, answer_cases, filter_none, found_passes, none_found, found_is_there, find_filtered, slots_same}
use Rattle.club_laws.proofs.AnswerCases.{same_bytes_of, sum_one_more, sum_no_more, AreApart, AllPairs-map, fresh_differs, still_there, named_there, only_named}
use Rattle.club_laws.proofs.AnswerCases.{none_passes, same_slots, at_found, only_numbered, named, none_named, is_numbered, found_by_own, numbered}
use Rattle.club_laws.proofs.MemberParts.{edited_member, edited, bookings_of-added, bookings_of-edited, owner, HasKnownKeys, with_edited}
use Rattle.club_laws.specs.SoundRuns.{SuitingChangesKeepSound, ChangesFit, RunsKeepSound, StepsKeepSound, Suits, SuitsBooking}
use Rattle.club_rows.specs.{Rows.{same_slot, persons_of, refund_at, IsMember, IsFacility, IsKey, IsBooking}, declared.booking.Booking.Booking}
use Rattle.club_rows.specs.declared.{facility.Facility.Facility, key.{Key.Key, OlderRoot.OlderRoot}, member.Member.Member}
use Rattle.club_values.specs.declared.slot.Slot.{Slot}

-- The maximum of `first` and of the values of `f` for all elements.
abbrev most_of : {X : Type 0} → (X → ℕ) → ℕ → List X → ℕ
most_of f first xs = fold (λ most x. max most (f x)) first xs

first_of_most : {X : Type 0} (f : X → ℕ) (first : ℕ) (xs : List X) → first ≤ most_of f first xs
first_of_most f first [] = omega arith
first_of_most f first (x ∷ xs) = omega (arith, first_of_most f (max first (f x)) xs)

each_of_most : {X : Type 0} (f : X → ℕ) (first : ℕ) (xs : List X) → All (λ x. f x ≤ most_of f first xs) xs
each_of_most f first [] = All-nil (λ x. f x ≤ first)
each_of_most f first (x ∷ xs) =
    let more = max first (f x) in
    All-cons (λ y. f y ≤ most_of f more xs) x xs (omega (arith, first_of_most f more xs)) (each_of_most f more xs)

pub at_most : (name : List ℕ) (bookings : List Booking) (slot : Slot) → slot.facility ≡ name → taken_in slot bookings ≤ most_taken_in name bookings
at_most name bookings slot of = go (find at bookings) refl
  where
    at : Booking → Bool
    at booking = same_slot booking.slot slot

    go : (found : Option Booking) → find at bookings ≡ found → taken_in slot bookings ≤ most_taken_in name bookings
    go None e =
        let nobody = filter_none (is_in slot) bookings (All-weaker (λ (b : Booking). at b ≡ false) (λ (b : Booking). is_in slot b ≡ false)
        (λ b other. grind arith) bookings (none_found at bookings e)) in
        let none : taken_in slot bookings ≡ 0 = ap (λ (kept : List Booking). sum_by persons_of kept) nobody in omega arith
    go (Some booking) e =
        let same = slots_same booking.slot slot (found_passes at bookings booking e) in
        let here = same_bytes_of booking.slot.facility name (ap (λ (s : Slot). s.facility) same ∙ of) in
        let there = found_is_there at (filter (is_at name) bookings) booking (find_filtered at (is_at name) bookings booking e here) in
        let most = All-contains (λ (b : Booking). taken_in b.slot bookings ≤ most_taken_in name bookings) (filter (is_at name) bookings) booking
        (each_of_most (λ (b : Booking). taken_in b.slot bookings) 0 (filter (is_at name) bookings)) there in
        subst (λ (s : Slot). taken_in s bookings ≤ most_taken_in name bookings) same most

-- The parts of `IsSound` that several changes preserve.
abbrev HasBalances : Club → Type 0
HasBalances club = All (λ (m : Member). sum_by cost_of (bookings_of m.name club) ≤ m.credited) club.members

abbrev HasOwners : Club → Type 0
HasOwners club = All (λ (k : Key). Contains (map (λ (m : Member). m.name) club.members) k.member) club.keys

abbrev HasRoom : Club → Type 0
HasRoom club = All (λ (f : Facility). (slot : Slot) → slot.facility ≡ f.name → taken_in slot club.bookings ≤ f.places) club.facilities

pub covered : (club : Club) → IsSound club → (name : List ℕ) (member : Member) → member_named name club ≡ Some member
    → sum_by cost_of (bookings_of member.name club) ≤ member.credited
covered club s name member e =
    at_found (λ (m : Member). sum_by cost_of (bookings_of m.name club) ≤ m.credited) (λ (m : Member). bytes_eq m.name name) club.members member s.balances e

pub nobody_in : (club : Club) (slot : Slot) → HasReferences club → All (λ (other : Facility). other.name ≢ slot.facility) club.facilities
    → taken_in slot club.bookings ≡ 0
nobody_in club slot refs fresh =
    ap (λ (bookings : List Booking). sum_by persons_of bookings)
    (filter_none (is_in slot) club.bookings (λ k d short.
    let differs = fresh_differs (λ (f : Facility). f.name) slot.facility _ club.facilities fresh (refs.facilities k d short) in grind arith))

sound_edited : (root : Key → List ℕ) (older : Key → Option OlderRoot) (is_revoked : Key → Bool) (club : Club) → IsSound club
    → All (λ (key : Key). IsKey (edited root older is_revoked key)) club.keys → IsSound (with_edited root older is_revoked club)
sound_edited root older is_revoked club s limits =
    let edit = edited root older is_revoked in
    let new : Club = record club { keys = map edit club.keys } in
    let known : HasKnownKeys new = rw (map-map (λ (k : Key). k.name) edit club.keys) s.references.bookings in
    let balances : HasBalances new = λ k d short. rw (bookings_of-edited root older is_revoked (get_or club.members k d).name club) (s.balances k d short) in
    search (All-map, AllPairs-map edit (λ (a : Key) (b : Key). a.name ≢ b.name), s.unique.keys)

sound_members : (credited quota : Member → ℕ) (club : Club) → IsSound club
    → All (λ (m : Member). IsMember (edited_member credited quota m) × (sum_by cost_of (bookings_of m.name club) ≤ credited m)) club.members
    → IsSound (record club { members = map (edited_member credited quota) club.members })
sound_members credited quota club s h =
    let edit = edited_member credited quota in
    let new : Club = record club { members = map edit club.members } in
    let owned : HasOwners new = rw (map-map (λ (m : Member). m.name) edit club.members) s.references.keys in
    let limits = All-map IsMember edit club.members (λ k d short. (h k d short).0) in
    let balances = All-map (λ (m : Member). sum_by cost_of (bookings_of m.name club) ≤ m.credited) edit club.members (λ k d short. (h k d short).1) in
    search (AllPairs-map edit (λ (a : Member) (b : Member). a.name ≢ b.name), s.unique.members)

pub sound_after : SuitingChangesKeepSound
sound_after club (InsertMember member) s h =
    let no_keys : keys_of member.name club ≡ [] =
    filter_none _ club.keys (λ k d short. fresh_differs (λ (m : Member). m.name) member.name _ club.members h.1 (s.references.keys k d short)) in
    let none : bookings_of member.name club ≡ [] =
    filter_none _ club.bookings (λ k d short. rw no_keys) in
    let cost : sum_by cost_of (bookings_of member.name club) ≤ member.credited = rw none (omega arith) in
    search (All-push, still_there, s.references.keys, all_pairs_push (λ (a : Member) (b : Member). a.name ≢ b.name), s.unique.members, h.1)
sound_after club (AddCredit name points) s h =
    let is = only_named (λ (m : Member). m.name) name club.members h.0 s.unique.members h.1 in
    sound_members (λ m. (credited_member name points m).credited) (λ m. m.quota) club s
    (λ k d short. grind (arith, is k d short, s.rows.members k d short, s.balances k d short))
sound_after club (TakeCredit name points) s h =
    let is = only_named (λ (m : Member). m.name) name club.members h.0 s.unique.members h.1 in
    sound_members (λ m. (debited_member name points m).credited) (λ m. m.quota) club s
    (λ k d short. grind (arith, is k d short, s.rows.members k d short, s.balances k d short))
sound_after club (ReplaceQuota name quota) s h =
    sound_members (λ m. m.credited) (λ m. (member_with_quota name quota m).quota) club s
    (λ k d short. grind (arith, s.rows.members k d short, s.balances k d short))
sound_after club (InsertFacility facility) s h =
    let places = All-push (λ (other : Facility). (slot : Slot) → slot.facility ≡ other.name → taken_in slot club.bookings ≤ other.places)
    club.facilities facility s.places (λ slot at. let none = nobody_in club slot s.references (rw (← at) at h.1) in omega arith) in
    let names = all_pairs_push (λ (a : Facility) (b : Facility). a.name ≢ b.name) in
    search (All-push, still_there, s.references.facilities, s.references.closed, names, s.unique.facilities, h.1)
sound_after club (ReplaceNumbers name places price opens shuts) s h =
    let edit = facility_with_numbers name places price opens shuts in
    let limits = All-map IsFacility edit club.facilities (λ k d short. grind (arith, nat_tests, s.rows.facilities k d short)) in
    let places = All-map (λ (f : Facility). (slot : Slot) → slot.facility ≡ f.name → taken_in slot club.bookings ≤ f.places) edit club.facilities
    (λ k d short slot at.
    grind (arith, h.1 slot, s.places k d short slot at, bytes_eq-Decides (get_or club.facilities k d).name name)) in
    let still : (n : List ℕ) → Contains (map (λ (f : Facility). f.name) club.facilities) n
    → Contains (map (λ (f : Facility). f.name) (map edit club.facilities)) n =
    λ n there. rw (map-map (λ (f : Facility). f.name) edit club.facilities) there in
    search (still, s.references.facilities, s.references.closed, AllPairs-map edit (λ (a : Facility) (b : Facility). a.name ≢ b.name), s.unique.facilities)
sound_after club (InsertKey key) s h =
    let new : Club = record club { keys = club.keys ++ key ∷ [] } in
    let balances : HasBalances new =
    λ k d short. rw (bookings_of-added (get_or club.members k d).name club key h.1 s.references.bookings) (s.balances k d short) in
    search (All-push, still_there, s.references.bookings, all_pairs_push (λ (a : Key) (b : Key). a.name ≢ b.name), s.unique.keys, h.1)
sound_after club (MarkRevoked name) s h =
    sound_edited (λ key. key.root) (λ key. key.older) (λ key. (revoked_key name key).revoked) club s
    (λ k d short. let row = s.rows.keys k d short in assumption)
sound_after club (ReplaceRoot name was root until) s h =
    sound_edited (λ key. (rotated_key name root until key).root) (λ key. (rotated_key name root until key).older) (λ key. key.revoked) club s
    (λ k d short. let row = s.rows.keys k d short in grind arith)
sound_after club (MarkClosed slot) s h =
    let fresh = All-weaker (λ (other : Slot). same_slot other slot ≡ false) (λ (other : Slot). other ≢ slot)
    (λ other f e. grind (arith, same_slots slot)) club.closed (none_passes (λ (other : Slot). same_slot other slot) club.closed h.1) in
    search (All-push, h, all_pairs_push (λ (a : Slot) (b : Slot). a ≢ b), s.unique.closed)
sound_after club (MarkOpen slot) s h = search (All-filter, AllPairs-filter (λ (a : Slot) (b : Slot). a ≢ b), s.unique.closed)
sound_after club (InsertBooking booking member) s h =
    let new : Club = after (InsertBooking booking member) club in
    let is : h.key.name ≡ booking.key = named (λ (x : Key). x.name) booking.key club.keys h.key h.known in
    let balances : HasBalances new =
    λ i d short.
    let other = get_or club.members i d in
    let only = only_named (λ (m : Member). m.name) h.key.member club.members h.payer s.unique.members h.owned i d short in
    let found = subst (λ (n : List ℕ). key_named n club ≡ Some h.key) (sym is) h.known in
    let own = owner club s.unique.keys h.key found other.name in
    let before = s.balances i d short in
    let sum = sum_one_more cost_of (λ (x : Booking). is_key_of other.name club x.key) club.bookings booking in
    grind (arith, nat_tests, bytes_eq-Decides other.name h.key.member)
    in
    let places : HasRoom new =
    λ i d short at of.
    let other = get_or club.facilities i d in
    let only = only_named (λ (f : Facility). f.name) booking.slot.facility club.facilities h.facility s.unique.facilities h.located i d short in
    let same = slots_same booking.slot at in
    let before = s.places i d short at of in
    grind (arith, nat_tests, sum_one_more persons_of (is_in at) club.bookings booking, bytes_eq-Decides other.name booking.slot.facility)
    in
    search (All-push, named_there, all_pairs_push AreApart, s.unique.bookings, h.free)
sound_after club (MarkCancelled booking member refund) s h =
    let mark = cancelled_booking booking.key booking.number refund in
    let new : Club = record club { bookings = map mark club.bookings } in
    let only = only_numbered booking.key booking.number club.bookings booking s.unique.bookings h.0 in
    let row : All (λ (b : Booking). IsBooking (mark b) × (cost_of (mark b) ≤ cost_of b)) club.bookings =
    λ i d short. let is = only i d short in let before = s.rows.bookings i d short in let kept = before.kept in grind arith in
    let limits = All-map IsBooking mark club.bookings (λ i d short. (row i d short).0) in
    let balances : HasBalances new =
    λ i d short.
    let before = s.balances i d short in
    let less = sum_no_more cost_of (λ (b : Booking). is_key_of (get_or club.members i d).name club b.key) mark club.bookings
    (λ j e less. let cost = (row j e less).1 in grind arith) in
    omega arith
    in
    let places : HasRoom new =
    λ i d short at of.
    let before = s.places i d short at of in
    omega (arith, sum_no_more persons_of (is_in at) mark club.bookings (λ j e less. grind arith))
    in
    search (All-map, AllPairs-map mark AreApart, s.unique.bookings)

suits_booking : (club : Club) → IsSound club → (words : Words) (key : Key) (member : Member) → Knows club words key member
    → (slot : Slot) (number guests : ℕ) (facility : Facility) → IsRequest (asked.Book slot number guests)
    → Books club key member slot number guests facility → SuitsBooking (written club key slot number guests facility) club
suits_booking club s words key member k slot number guests facility r b =
    let before = covered club s key.member member k.owned in
    let row = at_found IsFacility (λ (f : Facility). bytes_eq f.name slot.facility) club.facilities facility s.rows.facilities b.located in
    let key_row = at_found IsKey (λ (other : Key). bytes_eq other.name key.name) club.keys key s.rows.keys k.known in
    record {
      row = grind arith;
      free = All-weaker (λ (other : Booking). is_numbered key.name number other ≡ false) (λ (other : Booking).
          AreApart other (written club key slot number guests facility))
          (λ other f same. grind (arith, bytes_eq-Decides other.key key.name)) club.bookings (none_found (is_numbered key.name number) club.bookings b.new);
      key = key;
      known = k.known;
      payer = member;
      owned = k.owned;
      paid = grind (arith, nat_tests);
      facility = facility;
      located = b.located;
      placed = grind (arith, nat_tests, sum_one_more persons_of (is_in slot) club.bookings (written club key slot number guests facility), same_slots slot);
    }

-- If the decision is a change, then the change suits the club and matches the club's rows.
abbrev FitsIfAny : Club → Result (Option Change) OfficeFault → Type 0
FitsIfAny club (Ok (Some change)) = Suits change club × IsTrueOf change club
FitsIfAny club verdict = Unit {0}

suits_command : (club : Club) → IsSound club → (c : Command) → IsCommand c → FitsIfAny club (office_verdict club c)
suits_command club s (AddMember name quota) c = let new = none_named (λ (m : Member). m.name) name club.members in grind (arith, nat_tests, new)
suits_command club s (Credit name points) c = grind (arith, nat_tests)
suits_command club s (Debit name points) c = grind (arith, nat_tests, covered)
suits_command club s (SetQuota name quota) c = grind (arith, nat_tests)
suits_command club s (AddFacility name kind places price opens shuts) c =
    let new = none_named (λ (f : Facility). f.name) name club.facilities in grind (arith, nat_tests, new)
suits_command club s (SetFacility name places price opens shuts) c = let most = at_most name club.bookings in grind (arith, nat_tests, most)
suits_command club s (AddKey name member root) c =
    let new = none_named (λ (k : Key). k.name) name club.keys in
    let there = named_there (λ (m : Member). m.name) member club.members in grind (arith, new, there)
suits_command club s (RevokeKey name) c = grind arith
suits_command club s (RotateKey name root until) c = grind arith
suits_command club s (CancelBooking key number) c = grind (arith, numbered, found_passes, found_by_own)
suits_command club s (CloseSlot slot) c = let there = named_there (λ (f : Facility). f.name) slot.facility club.facilities in grind (arith, there)
suits_command club s (OpenSlot slot) c = grind arith

pub sound_step : StepsKeepSound
sound_step club (Asked words moment) s r =
    answer_cases (λ (v : Verdict). IsSound (after_change v.change club)) club words moment (record {
      silent = λ reply h. s;
      repeats_booking = λ key member slot number guests booking k e found same. s;
      books = λ key member slot number guests facility k e b.
          sound_after club (InsertBooking (written club key slot number guests facility) key.member) s
          (suits_booking club s words key member k slot number guests facility (subst IsRequest e r) b);
      cancels_recorded = λ key member slot number booking k e found same before. s;
      cancels = λ key member slot number booking k e c.
          sound_after club (MarkCancelled booking key.member (refund_at booking moment)) s
          (found_by_own key.name number booking club.bookings c.found, grind arith);
    })
sound_step club (Commanded command) s h = go (office_verdict club command) (suits_command club s command h)
  where
    go : (v : Result (Option Change) OfficeFault) → FitsIfAny club v → IsSound (command_outcome club command v).club
    go (Ok (Some change)) fits = sound_after club change s fits.0
    go v fits = s

pub sound_run : RunsKeepSound
sound_run club [] s h = s
sound_run club (event ∷ events) s h =
    sound_run (step club event).club events (sound_step club event s (All-head IsEvent event events h)) (All-tail IsEvent event events h)

true_answer : (club : Club) (words : Words) (moment : ℕ) (change : Change) → (verdict_in club words moment).change ≡ Some change → IsTrueOf change club
true_answer club words moment =
    answer_cases (λ (v : Verdict). (change : Change) → v.change ≡ Some change → IsTrueOf change club) club words moment
    (grind (arith, numbered, found_passes, found_by_own))

pub fits_event : ChangesFit
fits_event club (Asked words moment) change s e is = record {
  carries = true_answer club words moment change is;
  sound = rw is at (sound_step club (Asked words moment) s e);
}
fits_event club (Commanded command) change s e is = record {
  carries = (rw is at (suits_command club s command e)).1;
  sound = rw is at (sound_step club (Commanded command) s e);
}
