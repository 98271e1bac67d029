-- Lemmas for editing lists, for the proof that a club's numbers always fit their types, and about
-- the model of `Words`.
use Rattle.club_core.specs.declared.request.Request.TheVariants as asked
use Rattle.std.proofs.Common.{◌≡◌, ℕ, ◌+◌, ◌<◌, zero, suc, List, [], ◌∷◌, ◌++◌, length, take, drop, get_or, set, refl, arith, ◌∙◌, sym, ap, subst, add-one, map}
use Rattle.std.proofs.lemmas.List.{get_or-map, length-map, Elements.{All-head, All-tail, All-filter, All-push, All-map, filter_passes, at_from_Contains}}
use Rattle.std.proofs.lemmas.{Bool.Decides.{nat_tests, same_from_decides, Decides-like, Decides-by_or}, List.Folds.find-append, Slice.Eq.bytes_eq-Decides}
use Rattle.std.{proofs.lemmas.List.Sums.sum_by-cons, specs.{List.list_any, Prelude.{All, find, filter, option_map, fold, sum_by, Result, Ok, Contains, Err}}}
use Rattle.std.{proofs.{Common.{Bool, true, ◌-◌, ◌≤◌, cond, false, Option, Some, None, Decides}, Math.Path.fun_ext}, specs.{Str.bytes_eq, Vec.vec_items}}
use Rattle.club_core.specs.{After.{after, credited_member, debited_member, member_with_quota, facility_with_numbers, cancelled_booking}, Answer.answer_to}
use Rattle.club_core.specs.{Answer.answer_by_basis, Basis.{Basis, view_of, basis_of, seen_of}, Club.{Club, member_named, is_key_of, facility_named, key_named}}
use Rattle.club_core.specs.{Club.{bookings_of, is_in, taken_in, cost_of, is_under, spent_under, balance_of}, Office.office_verdict, Request.{Pass, Words}}
use Rattle.club_core.specs.{Request.request_slot, Solo.{part_of, with_others, solo_verdict}, Verdict.{new_booking, verdict_of}, declared.change.Change.Change}
use Rattle.club_core.specs.declared.change.Change.TheVariants.{InsertMember, AddCredit, InsertFacility, InsertBooking, MarkCancelled, TakeCredit}
use Rattle.club_core.specs.declared.{change.Change.TheVariants.{ReplaceNumbers, ReplaceQuota}, command.Command.Command, pass_fault.PassFault.PassFault}
use Rattle.club_core.specs.declared.{request.Request.Request, slot_use.SlotUse.SlotUse, view.View.View}
use Rattle.club_reference.specs.{Laws.ModelsWords, Widths.FitsWidths, Words.{IsModelOf, IsPassModel, IsResultModel, answer_seen, with_outside}}
use Rattle.club_reference.specs.{computed.Words.{pass_model, pass_result_model, words_model}, declared.words.Pass.Pass as PassInCode}
use Rattle.club_reference.specs.declared.words.Words.{Words as WordsInCode}
use Rattle.club_rows.specs.{Rows.{same_slot, persons_of, charge_of}, declared.{booking.Booking.Booking, facility.Facility.Facility, key.Key.Key}}
use Rattle.club_rows.specs.declared.member.Member.{Member}
use Rattle.club_values.specs.{Number.Reads, declared.slot.Slot.Slot}
use Rattle.pass_caveats.specs.{Caveat.Understood, Fault.AreUnderstoodAs, Laws.ReadsWhatIsUnderstood, computed.CaveatOf.caveat_of, declared.caveat.Caveat.Caveat}

-- The list after `f` has edited the elements before index `i`.
abbrev pub edited : {X : Type 0} → (X → X) → ℕ → List X → List X
edited f i xs = map f (take i xs) ++ drop i xs

next : {X : Type 0} (f : X → X) (i : ℕ) (xs : List X) (d : X) → i < length xs → get_or (edited f i xs) i d ≡ get_or xs i d
next f i [] d h = absurd (omega arith)
next f zero (x ∷ xs) d h = refl
next f (suc i) (x ∷ xs) d h = next f i xs d (omega arith)

edited-next : {X : Type 0} (f : X → X) (i : ℕ) (xs : List X) (d : X) → i < length xs
    → set (edited f i xs) i (f (get_or (edited f i xs) i d)) ≡ edited f (suc i) xs
edited-next f i [] d h = absurd (omega arith)
edited-next f zero (x ∷ xs) d h = refl
edited-next f (suc i) (x ∷ xs) d h = ap (λ ys. f x ∷ ys) (edited-next f i xs d (omega arith))

pub edited_more : {X : Type 0} (f : X → X) (i : ℕ) (xs ys : List X) (x y : X) → i < length xs → ys ≡ edited f i xs → y ≡ f (get_or ys i x)
    → set ys i y ≡ edited f (i + 1) xs
edited_more f i xs ys x y h same made = grind (arith, edited-next f i xs x h, add-one i)

pub holds_next : {X : Type 0} (P : X → Type 0) (f : X → X) (i : ℕ) (xs ys : List X) (x : X) → i < length xs → ys ≡ edited f i xs → All P (map f xs)
    → P (f (get_or ys i x))
holds_next P f i xs ys x h same holds =
    let at : get_or (map f xs) i (f x) ≡ f (get_or ys i x) = get_or-map f xs i x (f x) h ∙ ap f (sym (ap (λ zs. get_or zs i x) same ∙ next f i xs x h)) in
    subst P at (holds i (f x) (rw length-map h))

pub fold_less : {X : Type 0} (f : X → ℕ) (n : ℕ) (xs : List X) → fold (λ left x. left - f x) n xs ≡ n - sum_by f xs
fold_less f n [] = omega arith
fold_less f n (x ∷ xs) = omega (arith, fold_less f (n - f x) xs, sum_by-cons f x xs)

found_passes : {X : Type 0} (p : X → Bool) (xs : List X) (x : X) → find p xs ≡ Some x → p x ≡ true
found_passes p [] x e = cc
found_passes p (y ∷ ys) x e = grind (arith, found_passes p ys x)

found_le : {X : Type 0} (f : X → ℕ) (n : ℕ) (p : X → Bool) (xs : List X) (x : X) → All (λ y. f y ≤ n) xs → find p xs ≡ Some x → f x ≤ n
found_le f n p [] x h e = cc
found_le f n p (y ∷ ys) x h e = grind (arith, All-head (λ z. f z ≤ n) y ys h, found_le f n p ys x (All-tail (λ z. f z ≤ n) y ys h))

found_kept : {X : Type 0} (p q r : X → Bool) (xs : List X) (x : X) → find p xs ≡ Some x → q x ≡ true → r x ≡ true → list_any r (filter q xs) ≡ true
found_kept p q r [] x e t u = cc
found_kept p q r (y ∷ ys) x e t u = grind (arith, λ (f : find p ys ≡ Some x). found_kept p q r ys x f t u)

find_filtered : {X : Type 0} (p q : X → Bool) (xs : List X) (x : X) → find p xs ≡ Some x → q x ≡ true → find p (filter q xs) ≡ Some x
find_filtered p q [] x e t = cc
find_filtered p q (y ∷ ys) x e t = grind (arith, find_filtered p q ys x)

find-map : {X : Type 0} (p : X → Bool) (f : X → X) (xs : List X) → ((x : X) → p (f x) ≡ p x) → find p (map f xs) ≡ option_map f (find p xs)
find-map p f [] same = refl
find-map p f (x ∷ xs) same = grind (arith, same x, find-map p f xs same)

-- The amount that an element adds to a sum. An element that fails the test `p` adds 0.
abbrev part : {X : Type 0} → (X → ℕ) → (X → Bool) → X → ℕ
part f p x = cond (p x) (f x) 0

sum_more : {X : Type 0} (f : X → ℕ) (p : X → Bool) (xs : List X) (y : X) → sum_by f (filter p (xs ++ y ∷ [])) ≡ sum_by f (filter p xs) + part f p y
sum_more f p [] y = grind arith
sum_more f p (x ∷ xs) y = grind (arith, sum_more f p xs y, sum_by-cons f x (filter p xs), sum_by-cons f x (filter p (xs ++ y ∷ [])))

sum_map_le : {X : Type 0} (f : X → ℕ) (p : X → Bool) (h : X → X) (xs : List X) → All (λ x. part f p (h x) ≤ part f p x) xs
    → sum_by f (filter p (map h xs)) ≤ sum_by f (filter p xs)
sum_map_le f p h [] le = omega arith
sum_map_le f p h (x ∷ xs) le =
    let here = All-head (λ y. part f p (h y) ≤ part f p y) x xs le in
    let rest = sum_map_le f p h xs (All-tail (λ y. part f p (h y) ≤ part f p y) x xs le) in
    grind (arith, sum_by-cons f (h x) (filter p (map h xs)), sum_by-cons f x (filter p xs))

sum_le : {X : Type 0} (f : X → ℕ) (p q : X → Bool) (xs : List X) → ((x : X) → part f p x ≤ part f q x) → sum_by f (filter p xs) ≤ sum_by f (filter q xs)
sum_le f p q [] le = omega arith
sum_le f p q (x ∷ xs) le = grind (arith, le x, sum_le f p q xs le, sum_by-cons f x (filter p xs), sum_by-cons f x (filter q xs))

pub sum_filtered_le : {X : Type 0} (f : X → ℕ) (p q : X → Bool) (xs : List X) → sum_by f (filter p (filter q xs)) ≤ sum_by f (filter p xs)
sum_filtered_le f p q [] = omega arith
sum_filtered_le f p q (x ∷ xs) = grind (arith, sum_filtered_le f p q xs, sum_by-cons f x (filter p xs), sum_by-cons f x (filter p (filter q xs)))

abbrev named : List ℕ → Member → Bool
named name member = bytes_eq member.name name

abbrev IsNamed : List Member → Member → Type 0
IsNamed members member = find (named member.name) members ≡ Some member

-- The conditions under which the club's numbers still fit after a change.
abbrev pub Allows : Club → Change → Type 0
Allows club (InsertMember member) = (member.credited ≤ 999_999_999) × (member_named member.name club ≡ None)
Allows club (AddCredit name points) = (member : Member) → member_named name club ≡ Some member → member.credited + points ≤ 999_999_999
Allows club (InsertFacility facility) = facility.places ≤ 50
Allows club (ReplaceNumbers name places price opens shuts) = places ≤ 50
Allows club (InsertBooking booking member) =
    (taken_in booking.slot club.bookings + persons_of booking ≤ 50) × (spent_under booking.key club.bookings + cost_of booking ≤ 999_999_999)
    × (booking.refund ≡ 0)
Allows club change = Unit {0}

fits_members : (credited quota : Member → ℕ) (club : Club) → FitsWidths club → All (λ (m : Member). credited m ≤ 999_999_999) club.members
    → FitsWidths (record club { members = map (λ (m : Member). record m { credited = credited m; quota = quota m }) club.members })
fits_members credited quota club h few =
    let edit : Member → Member = λ m. record m { credited = credited m; quota = quota m } in
    let unique = All-map (IsNamed (map edit club.members)) edit club.members (λ k d lt.
    find-map (named (get_or club.members k d).name) edit club.members (λ m. refl) ∙ ap (option_map edit) (h.unique k d lt)) in
    search (All-map, few)

same_slot_is : (a b : Slot) → same_slot a b ≡ true → a ≡ b
same_slot_is a b e = grind (arith, bytes_eq-Decides a.facility b.facility)

pub fits_after : (club : Club) (change : Change) → FitsWidths club → Allows club change → FitsWidths (after change club)
fits_after club (InsertMember member) h allowed =
    let both = λ (name : List ℕ). find-append (named name) club.members (member ∷ []) in
    let unique = All-push (IsNamed (club.members ++ member ∷ [])) club.members member
    (λ k d lt. let is = h.unique k d lt in grind (arith, both (get_or club.members k d).name))
    (grind (arith, both member.name, bytes_eq-Decides member.name member.name)) in
    search All-push
fits_after club (AddCredit name points) h allowed =
    fits_members (λ m. (credited_member name points m).credited) (λ m. m.quota) club h
    (λ k d lt.
    let few = h.credited k d lt in
    let is = h.unique k d lt in
    let more = allowed (get_or club.members k d) in grind (arith, bytes_eq-Decides (get_or club.members k d).name name))
fits_after club (TakeCredit name points) h allowed =
    fits_members (λ m. (debited_member name points m).credited) (λ m. m.quota) club h (λ k d lt. let few = h.credited k d lt in grind arith)
fits_after club (ReplaceQuota name quota) h allowed = fits_members (λ m. m.credited) (λ m. (member_with_quota name quota m).quota) club h h.credited
fits_after club (InsertFacility facility) h allowed = search All-push
fits_after club (ReplaceNumbers name places price opens shuts) h allowed =
    let fewer = All-map (λ (f : Facility). f.places ≤ 50) (facility_with_numbers name places price opens shuts) club.facilities
    (λ k d lt. let old = h.places k d lt in grind arith) in
    assumption
fits_after club (InsertBooking booking member) h allowed =
    let new : Club = record club { bookings = club.bookings ++ booking ∷ [] } in
    let taken : (slot : Slot) → taken_in slot new.bookings ≤ 50 =
    λ slot. let few = h.taken slot in grind (arith, sum_more persons_of (is_in slot) club.bookings booking, same_slot_is booking.slot slot) in
    let spent : (key : List ℕ) → spent_under key new.bookings ≤ 999_999_999 =
    λ key. let few = h.spent key in grind (arith, sum_more cost_of (is_under key) club.bookings booking, bytes_eq-Decides booking.key key) in
    let live = All-push (λ (b : Booking). b.cancelled ≡ false → b.refund ≡ 0) club.bookings booking h.kept (λ _. allowed.2) in assumption
fits_after club (MarkCancelled booking member refund) h allowed =
    let edit = cancelled_booking booking.key booking.number refund in
    let new : Club = record club { bookings = map edit club.bookings } in
    let taken : (slot : Slot) → taken_in slot new.bookings ≤ 50 =
    λ slot. let few = h.taken slot in omega (arith, sum_map_le persons_of (is_in slot) edit club.bookings (λ k d lt. grind arith)) in
    let spent : (name : List ℕ) → spent_under name new.bookings ≤ 999_999_999 =
    λ name.
    let few = h.spent name in
    omega (arith, sum_map_le cost_of (is_under name) edit club.bookings (λ k d lt. let none = h.kept k d lt in grind arith))
    in
    let live = All-map (λ (b : Booking). b.cancelled ≡ false → b.refund ≡ 0) edit club.bookings (λ k d lt. let none = h.kept k d lt in grind arith) in
    assumption
fits_after club change h allowed = assumption

pub fits_part : (name : List ℕ) (club : Club) → FitsWidths club → FitsWidths (part_of name club)
fits_part name club h =
    let own = named name in
    let held = λ (booking : Booking). is_key_of name club booking.key in
    record {
      credited = All-filter own (λ (m : Member). m.credited ≤ 999_999_999) club.members h.credited;
      unique = λ k d lt.
          All-filter own (λ (m : Member). own m ≡ true → IsNamed (filter own club.members) m) club.members
          (λ i e short. find_filtered (named (get_or club.members i e).name) own club.members (get_or club.members i e) (h.unique i e short)) k d lt
          (filter_passes own club.members k d lt);
      places = h.places;
      taken = λ slot. let few = h.taken slot in omega (arith, sum_filtered_le persons_of (is_in slot) held club.bookings);
      spent = λ key. let few = h.spent key in omega (arith, sum_filtered_le cost_of (is_under key) held club.bookings);
      kept = All-filter held (λ (b : Booking). b.cancelled ≡ false → b.refund ≡ 0) club.bookings h.kept;
    }

pub fits_same : (a b : Club) → a.members ≡ b.members → a.facilities ≡ b.facilities → a.bookings ≡ b.bookings → FitsWidths b → FitsWidths a
fits_same a b members facilities bookings h = grind arith

-- The basis agrees with the club: the key belongs to the member, and the bookings are the member's
-- bookings. For a requested slot, `state.facility` is the slot's facility in the club, and
-- `state.held.taken` is at least the number of persons in the slot.
record IsBasisIn (club : Club) (request : Request) (basis : Basis) : Type 0 where
  held : is_key_of basis.member.name club basis.key.name ≡ true
  owner : member_named basis.key.member club ≡ Some basis.member
  own : basis.bookings ≡ bookings_of basis.member.name club
  facility : (slot : Slot) → request_slot request ≡ Some slot → facility_named slot.facility club ≡ basis.state.facility
  taken : (slot : Slot) → request_slot request ≡ Some slot → taken_in slot club.bookings ≤ basis.state.held.taken

abbrev pub AllowsIfAny : Club → Option Change → Type 0
AllowsIfAny club None = Unit {0}
AllowsIfAny club (Some change) = Allows club change

module _ (P : Option Change → Type 0) (none : P None)
    (cancels : (booking : Booking) (member : List ℕ) (refund : ℕ) → P (Some (MarkCancelled booking member refund))) where
  view_cases : (view : View) (request : Request) (moment : ℕ)
      → ((slot : Slot) (number guests : ℕ) (facility : Facility) → request ≡ asked.Book slot number guests → view.facility ≡ Some facility
      → view.taken + guests + 1 ≤ facility.places → charge_of facility guests ≤ view.balance
      → P (Some (InsertBooking (new_booking view slot number guests facility) view.key.member)))
      → P (verdict_of view request moment).change
  view_cases view (asked.Book slot number guests) moment books = grind (arith, nat_tests, none, books slot number guests)
  view_cases view request moment books = grind (arith, none, cancels)

  basis_cases : (pass : Result Pass PassFault) (request : Request) (moment : ℕ) (found : Option Basis)
      → ((basis : Basis) (slot : Slot) (number guests : ℕ) (facility : Facility) → found ≡ Some basis → request ≡ asked.Book slot number guests
      → basis.state.facility ≡ Some facility → basis.state.held.taken + guests + 1 ≤ facility.places
      → charge_of facility guests ≤ balance_of basis.member basis.bookings
      → P (Some (InsertBooking (new_booking (view_of basis request moment) slot number guests facility) basis.key.member)))
      → P (answer_to pass request moment found).change
  basis_cases (Ok pass) request moment (Some basis) books =
      let decided = view_cases (view_of basis request moment) request moment (λ slot number guests facility. books basis slot number guests facility refl) in
      grind arith
  basis_cases pass request moment found books = grind arith

allows_by : (club : Club) (pass : Result Pass PassFault) (request : Request) (moment : ℕ) (found : Option Basis) → FitsWidths club
    → ((basis : Basis) → found ≡ Some basis → IsBasisIn club request basis) → AllowsIfAny club (answer_to pass request moment found).change
allows_by club pass request moment found h is =
    basis_cases (AllowsIfAny club) tt (λ booking member refund. tt) pass request moment found
    (λ basis slot number guests facility f r there room points.
    let it = is basis f in
    let held = it.held in
    let asked_slot = ap request_slot r in
    let places = found_le (λ (f : Facility). f.places) 50 _ club.facilities facility h.places (it.facility slot asked_slot ∙ there) in
    let top = found_le (λ (m : Member). m.credited) 999_999_999 _ club.members basis.member h.credited it.owner in
    let spent = sum_le cost_of (is_under basis.key.name) (λ (b : Booking). is_key_of basis.member.name club b.key) club.bookings
    (λ b. grind (arith, bytes_eq-Decides b.key basis.key.name)) in
    let taken = it.taken slot asked_slot in
    let most = h.spent basis.key.name in
    let cost = rw it.own at points in
    (omega arith, omega arith, refl))

own_key : (club : Club) (name : List ℕ) (key : Key) (member : Member) → key_named name club ≡ Some key → member_named key.member club ≡ Some member
    → is_key_of member.name club key.name ≡ true
own_key club name key member found owner =
    let named = found_passes (λ (m : Member). bytes_eq m.name key.member) club.members member owner in
    found_kept (λ (k : Key). bytes_eq k.name name) (λ (k : Key). bytes_eq k.member member.name) (λ (k : Key). bytes_eq k.name key.name) club.keys key found
    (grind (arith, bytes_eq-Decides member.name key.member, bytes_eq-Decides key.member member.name))
    ((bytes_eq-Decides key.name key.name).1 refl)

pub allows_answer : (club : Club) (words : Words) (moment : ℕ) → FitsWidths club → AllowsIfAny club (answer_by_basis words moment (basis_of club words)).change
allows_answer club words moment h = allows_by club words.pass words.request moment (basis_of club words) h (λ basis e. grind (arith, own_key club))

pub allows_solo : (club : Club) (words : Words) (moment : ℕ) (others : SlotUse) → FitsWidths club
    → AllowsIfAny club (solo_verdict club words moment others).change
allows_solo club words moment others h =
    allows_by club words.pass words.request moment (option_map (with_others others) (basis_of club words)) h (λ basis e. grind (arith, own_key club))

pub allows_command : (club : Club) (command : Command) (change : Change) → office_verdict club command ≡ Ok (Some change) → Allows club change
allows_command club command change e = grind (arith, nat_tests)

Decides-signed : (roots : List (List ℕ)) (root : List ℕ) → Decides (list_any (λ other. bytes_eq other root) roots) (Contains roots root)
Decides-signed roots root =
    Decides-like _ (λ h. (h.0, h.1, h.2 root)) (at_from_Contains roots root)
    (Decides-by_or (λ other. bytes_eq other root) (λ other. other ≡ root) (list_any (λ other. bytes_eq other root))
    (λ other. bytes_eq-Decides other root) refl (λ _ _. refl) roots)

module _ (reads : ReadsWhatIsUnderstood) where
  read_as : (text : List ℕ) (found : Option Caveat) → caveat_of text ≡ found → Reads (Understood text) found
  read_as text None e = λ caveat h. let x = (reads text caveat).0 h in absurd (cc)
  read_as text (Some caveat) e = (reads text caveat).1 e

  one_reading : (text : List ℕ) (one : Option Caveat) → Reads (Understood text) one → caveat_of text ≡ one
  one_reading text (Some caveat) h = (reads text caveat).0 h
  one_reading text None h = let never = λ (caveat : Caveat) (e : caveat_of text ≡ Some caveat). h caveat ((reads text caveat).1 e) in grind (arith, never)

  all_read : (texts : List (List ℕ)) → AreUnderstoodAs texts (map caveat_of texts)
  all_read [] = tt
  all_read (text ∷ texts) = (read_as text (caveat_of text) refl, all_read texts)

  one_list : (texts : List (List ℕ)) (caveats : List (Option Caveat)) → AreUnderstoodAs texts caveats → map caveat_of texts ≡ caveats
  one_list [] [] h = refl
  one_list (text ∷ texts) (caveat ∷ caveats) h = cc (one_reading text caveat h.0, one_list texts caveats h.1)
  one_list texts caveats h = absurd h

  is_model : (pass : PassInCode) → IsPassModel pass (pass_model pass)
  is_model pass = record {
    key = refl;
    caveats = all_read (map vec_items pass.caveats.items);
    signed = λ root. let d = Decides-signed pass.roots.items root in (d.0, d.1);
  }

  one_model : (pass : PassInCode) (model : Pass) → IsPassModel pass model → pass_model pass ≡ model
  one_model pass model h =
      let computed = pass_model pass in
      let caveats = one_list (map vec_items pass.caveats.items) model.caveats h.caveats in
      let roots : computed.is_signed ≡ model.is_signed =
      fun_ext (λ (root : List ℕ). sym (same_from_decides _ _ (h.signed root) (Decides-signed pass.roots.items root))) in
      λ i. record { key = sym h.key i; caveats = caveats i; is_signed = roots i }

  is_result_model : (pass : Result PassInCode PassFault) → IsResultModel pass (pass_result_model pass)
  is_result_model (Ok pass) = is_model pass
  is_result_model (Err fault) = refl

  one_result : (pass : Result PassInCode PassFault) (model : Result Pass PassFault) → IsResultModel pass model → pass_result_model pass ≡ model
  one_result (Ok pass) (Ok model) h = ap (λ (p : Pass). let read : Result Pass PassFault = Ok p in read) (one_model pass model h)
  one_result (Err fault) (Err other) h = cc
  one_result pass model h = absurd h

  one_of : (words : WordsInCode) (model : Words) → IsModelOf words model → words_model words ≡ model
  one_of words model h = let pass = one_result words.pass model.pass h.0 in λ i. record { pass = pass i; request = sym h.1 i }

  pub models_words : ModelsWords
  models_words words model = (one_of words model, λ e. subst (λ (m : Words). IsModelOf words m) e (is_result_model words.pass, refl))

pub their_model : ModelsWords → (words : WordsInCode) → IsModelOf words (words_model words)
their_model law words = (law words (words_model words)).1 refl

pub answers_seen : (pass : Result Pass PassFault) (request : Request) (moment : ℕ) (basis : Option Basis)
    → answer_seen pass request moment (option_map (seen_of request moment) basis) ≡ answer_to pass request moment basis
answers_seen pass request moment basis = grind arith

pub seen_with_others : (request : Request) (moment : ℕ) (others : SlotUse) (basis : Option Basis)
    → option_map (with_outside others) (option_map (seen_of request moment) basis) ≡ option_map (seen_of request moment) (option_map (with_others others) basis)
seen_with_others request moment others basis = grind arith
