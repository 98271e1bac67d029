-- Lemmas about `find`, filtered lists and their sums, and about the cases in which the rules
-- answer a request or decide a command.
use Rattle.club_core.specs.declared.refusal.Refusal.TheVariants as refusals
use Rattle.club_core.specs.declared.request.Request.TheVariants as asked
use Rattle.club_core.specs.Verdict as verdicts
use Rattle.std.proofs.Common.{◌≡◌, ℕ, suc, Bool, true, false, ◌&&◌, ◌||◌, List, [], ◌∷◌, ◌++◌, get_or, map, Some, None, refl, ap, ◌∙◌, arith, option_map, ◌≢◌}
use Rattle.std.proofs.Common.{sym, subst, All, AllPairs, Contains, find, filter, ◌==◌, ◌+◌, ◌≤◌, cond, not, sum_by, ◌-◌, Option, Ok, Err, Result, nat_lt}
use Rattle.std.proofs.lemmas.{Bool.{false_from_ne_true, both_ways}, List.{length-map, get_or-map, map-append, Elements.{All-cons, All-nil, All-contains}}}
use Rattle.std.proofs.lemmas.List.Elements.{Contains-append_left, Contains-append_right, Contains-push, All-map, All-weaker, filter_agree, All-head, All-tail}
use Rattle.std.proofs.lemmas.List.{Elements.filter-append, Filters.sum_by-filter_both, Folds.{list_any_at, find-append}, Kept.AllPairs-cons, Sums.sum_by-cons}
use Rattle.std.{proofs.lemmas.{List.Sums.sum_by-append, Slice.Eq.bytes_eq-Decides}, specs.{List.list_any, Str.bytes_eq}}
use Rattle.club_core.specs.{After.after, Answer.{answer_to, verdict_in}, Basis.{Basis, basis_of, view_of, state_of, key_of}, Club.{is_under, Club}}
use Rattle.club_core.specs.Club.{facility_named, is_key_of, bookings_of, is_closed, key_named, member_named, taken_in, balance_of, booking_under}
use Rattle.club_core.specs.{Office.{office_cancel_verdict, office_verdict}, Request.{Pass, Words, request_slot}, Run.{Outcome, command_outcome, step}}
use Rattle.club_core.specs.{Run.{Commanded, Event, Asked, after_change, replies_of, club_after, EventReply}, declared.change.Change.Change}
use Rattle.club_core.specs.declared.{change.Change.TheVariants.MarkCancelled, command.{Command.TheVariants.CancelBooking, OfficeFault.OfficeFault}}
use Rattle.club_core.specs.declared.{command.OfficeFault.TheVariants.Unknown, pass_fault.PassFault.PassFault, reply.Reply.{Reply, TheVariants.Booked}}
use Rattle.club_core.specs.declared.{reply.Reply.TheVariants.{Cancelled, Refused}, request.Request.Request, verdict.Verdict.Verdict}
use Rattle.club_rows.specs.{Rows.{same_slot, refund_at, charge_of}, declared.{booking.Booking.Booking, facility.Facility.Facility, key.Key.Key}}
use Rattle.club_rows.specs.declared.member.Member.{Member}
use Rattle.club_values.specs.declared.slot.Slot.{Slot}

pub found_passes : {X : Type 0} (p : X → Bool) (xs : List X) (x : X) → find p xs ≡ Some x → p x ≡ true
found_passes p [] x e = absurd (cc)
found_passes p (y ∷ ys) x e = grind (arith, found_passes p ys x)

pub found_is_there : {X : Type 0} (p : X → Bool) (xs : List X) (x : X) → find p xs ≡ Some x → Contains xs x
found_is_there p [] x e = absurd (cc)
found_is_there p (y ∷ ys) x e =
    grind (arith, found_is_there p ys x, Contains-append_left (y ∷ []) ys x, Contains-append_right (y ∷ []) ys x, Contains-push [] x)

pub at_found : {X : Type 0} (P : X → Type 0) (p : X → Bool) (xs : List X) (x : X) → All P xs → find p xs ≡ Some x → P x
at_found P p xs x h e = All-contains P xs x h (found_is_there p xs x e)

pub none_found : {X : Type 0} (p : X → Bool) (xs : List X) → find p xs ≡ None → All (λ x. p x ≡ false) xs
none_found p [] e = All-nil (λ x. p x ≡ false)
none_found p (y ∷ ys) e = All-cons (λ x. p x ≡ false) y ys (grind arith) (none_found p ys (grind arith))

pub AllPairs-head : {X : Type 0} (R : X → X → Type 0) (x : X) (xs : List X) → AllPairs R (x ∷ xs) → All (R x) xs
AllPairs-head R x xs h = λ k d short. h 0 (suc k) d (omega arith) (omega arith)

pub AllPairs-tail : {X : Type 0} (R : X → X → Type 0) (x : X) (xs : List X) → AllPairs R (x ∷ xs) → AllPairs R xs
AllPairs-tail R x xs h = λ i j d less short. h (suc i) (suc j) d (omega arith) (omega arith)

pub AllPairs-map : {X Y : Type 0} (f : X → Y) (S : Y → Y → Type 0) (xs : List X) → AllPairs (λ a b. S (f a) (f b)) xs → AllPairs S (map f xs)
AllPairs-map f S [] h = λ i j d less short. absurd (omega arith)
AllPairs-map f S (x ∷ xs) h =
    AllPairs-cons S (f x) (map f xs) (All-map (S (f x)) f xs (AllPairs-head (λ a b. S (f a) (f b)) x xs h))
    (AllPairs-map f S xs (AllPairs-tail (λ a b. S (f a) (f b)) x xs h))

pub only_found : {X : Type 0} (R : X → X → Type 0) (p : X → Bool) → ((a b : X) → p a ≡ true → p b ≡ true → R a b → ⊥) → (xs : List X) (x : X) → AllPairs R xs
    → find p xs ≡ Some x → All (λ y. p y ≡ true → y ≡ x) xs
only_found R p apart [] x h e = λ k d short. absurd (omega arith)
only_found R p apart (y ∷ ys) x h e =
    All-cons (λ z. p z ≡ true → z ≡ x) y ys (λ t. grind arith)
    (λ k d short t.
    let rest : find p ys ≡ Some x → get_or ys k d ≡ x = λ f. only_found R p apart ys x (AllPairs-tail R y ys h) f k d short t in
    grind (arith, apart y (get_or ys k d), AllPairs-head R y ys h k d short))

pub find-filter : {X : Type 0} (p q : X → Bool) (xs : List X) → ((x : X) → p x ≡ true → q x ≡ true) → find p (filter q xs) ≡ find p xs
find-filter p q [] h = refl
find-filter p q (y ∷ ys) h = grind (arith, find-filter p q ys h, h y)

pub find_filtered : {X : Type 0} (p q : X → Bool) (xs : List X) (x : X) → find p xs ≡ Some x → q x ≡ true → find p (filter q xs) ≡ Some x
find_filtered p q [] x e h = absurd (cc)
find_filtered p q (y ∷ ys) x e h = grind (arith, find_filtered p q ys x)

pub any_passes : {X : Type 0} (p : X → Bool) (xs : List X) (x : X) → Contains xs x → p x ≡ true → list_any p xs ≡ true
any_passes p xs x h e = list_any_at p xs h.0 x h.1 (rw h.2 e)

pub any-filter : {X : Type 0} (p q : X → Bool) (xs : List X) → list_any p (filter q xs) ≡ list_any (λ x. q x && p x) xs
any-filter p q [] = refl
any-filter p q (y ∷ ys) = grind (arith, any-filter p q ys)

pub bytes_same : (xs ys : List ℕ) → bytes_eq xs ys ≡ true → xs ≡ ys
bytes_same xs ys = (bytes_eq-Decides xs ys).0

pub same_bytes_of : (xs ys : List ℕ) → xs ≡ ys → bytes_eq xs ys ≡ true
same_bytes_of xs ys = (bytes_eq-Decides xs ys).1

pub other_bytes : (xs ys : List ℕ) → (xs ≡ ys → ⊥) → bytes_eq xs ys ≡ false
other_bytes xs ys h = false_from_ne_true (bytes_eq xs ys) (λ e. h (bytes_same xs ys e))

pub any-map : {X Y : Type 0} (f : X → Y) (p : Y → Bool) (xs : List X) → list_any p (map f xs) ≡ list_any (λ x. p (f x)) xs
any-map f p [] = refl
any-map f p (x ∷ xs) = ap (λ b. p (f x) || b) (any-map f p xs)

pub found_before : {X : Type 0} (p : X → Bool) (xs ys : List X) (x : X) → find p xs ≡ Some x → find p (xs ++ ys) ≡ Some x
found_before p xs ys x e = find-append p xs ys ∙ rw e

pub find-map : {X : Type 0} (p : X → Bool) (f : X → X) → ((x : X) → p (f x) ≡ p x) → (xs : List X) → find p (map f xs) ≡ option_map f (find p xs)
find-map p f blind [] = refl
find-map p f blind (x ∷ xs) = grind (arith, find-map p f blind xs, blind x)

pub none_named : {X : Type 0} (name : X → List ℕ) (n : List ℕ) (xs : List X) → find (λ x. bytes_eq (name x) n) xs ≡ None → All (λ x. name x ≢ n) xs
none_named name n xs e =
    All-weaker (λ x. bytes_eq (name x) n ≡ false) (λ x. name x ≢ n) (λ x f h. both_ways (bytes_eq (name x) n) f (same_bytes_of (name x) n h)) xs
    (none_found (λ x. bytes_eq (name x) n) xs e)

pub named : {X : Type 0} (name : X → List ℕ) (n : List ℕ) (xs : List X) (x : X) → find (λ y. bytes_eq (name y) n) xs ≡ Some x → name x ≡ n
named name n xs x e = bytes_same (name x) n (found_passes (λ y. bytes_eq (name y) n) xs x e)

pub named_there : {X : Type 0} (name : X → List ℕ) (n : List ℕ) (xs : List X) (x : X) → find (λ y. bytes_eq (name y) n) xs ≡ Some x → Contains (map name xs) n
named_there name n xs x e =
    subst (λ (m : List ℕ). Contains (map name xs) m) (named name n xs x e)
    ((
      (found_is_there (λ y. bytes_eq (name y) n) xs x e).0,
      simp length-map (found_is_there (λ y. bytes_eq (name y) n) xs x e).1,
      get_or-map name xs
          (found_is_there (λ y. bytes_eq (name y) n) xs x e).0 x (name x) (found_is_there (λ y. bytes_eq (name y) n) xs x e).1 ∙ ap name (found_is_there (λ y.
          bytes_eq (name y) n) xs x e).2,
    ))

pub fresh_differs : {X : Type 0} (name : X → List ℕ) (n m : List ℕ) (xs : List X) → All (λ x. name x ≢ n) xs → Contains (map name xs) m → bytes_eq m n ≡ false
fresh_differs name n m xs fresh there = other_bytes m n (All-contains (λ k. k ≢ n) (map name xs) m (All-map (λ k. k ≢ n) name xs fresh) there)

pub still_there : {X : Type 0} (name : X → List ℕ) (rows : List X) (row : X) (n : List ℕ) → Contains (map name rows) n
    → Contains (map name (rows ++ row ∷ [])) n
still_there name rows row n h = rw (map-append name rows (row ∷ [])) (Contains-append_left (map name rows) (name row ∷ []) n h)

pub only_named : {X : Type 0} (name : X → List ℕ) (n : List ℕ) (xs : List X) (x : X) → AllPairs (λ a b. name a ≢ name b) xs
    → find (λ y. bytes_eq (name y) n) xs ≡ Some x → All (λ y. bytes_eq (name y) n ≡ true → y ≡ x) xs
only_named name n xs x unique e =
    only_found (λ a b. name a ≢ name b) (λ y. bytes_eq (name y) n) (λ a b h k other.
    other (bytes_same (name a) n h ∙ sym (bytes_same (name b) n k))) xs x unique e

pub none_passes : {X : Type 0} (p : X → Bool) (xs : List X) → list_any p xs ≡ false → All (λ x. p x ≡ false) xs
none_passes p [] e = All-nil (λ x. p x ≡ false)
none_passes p (x ∷ xs) e = All-cons (λ y. p y ≡ false) x xs (grind arith) (none_passes p xs (grind arith))

pub slots_same : (a b : Slot) → same_slot a b ≡ true → a ≡ b
slots_same a b e = grind (arith, bytes_eq-Decides a.facility b.facility)

pub same_slots : (a : Slot) → same_slot a a ≡ true
same_slots a = grind (arith, bytes_eq-Decides a.facility a.facility)

-- Whether the booking was made under this key and number.
abbrev pub is_numbered : List ℕ → ℕ → Booking → Bool
is_numbered key number booking = is_under key booking && booking.number == number

pub numbered : (key : List ℕ) (number : ℕ) (booking : Booking) → is_numbered key number booking ≡ true → (booking.key ≡ key) × (booking.number ≡ number)
numbered key number booking e = grind (arith, bytes_eq-Decides booking.key key)

-- The two bookings have different keys or different numbers.
abbrev pub AreApart : Booking → Booking → Type 0
AreApart a b = ¬ ((a.key ≡ b.key) × (a.number ≡ b.number))

pub only_numbered : (key : List ℕ) (number : ℕ) (bookings : List Booking) (booking : Booking) → AllPairs AreApart bookings
    → find (is_numbered key number) bookings ≡ Some booking → All (λ other. is_numbered key number other ≡ true → other ≡ booking) bookings
only_numbered key number bookings booking unique e =
    only_found AreApart (is_numbered key number)
    (λ a b h k other. let l = numbered key number a h in let r = numbered key number b k in other (l.0 ∙ sym r.0, l.1 ∙ sym r.1)) bookings booking unique e

pub numbered_back : (key : List ℕ) (number : ℕ) (booking : Booking) → is_numbered key number booking ≡ (bytes_eq key booking.key && number == booking.number)
numbered_back key number booking = grind (arith, bytes_eq-Decides booking.key key, bytes_eq-Decides key booking.key)

pub self_numbered : (booking : Booking) → is_numbered booking.key booking.number booking ≡ true
self_numbered booking = grind (arith, bytes_eq-Decides booking.key booking.key)

pub found_by_own : (key : List ℕ) (number : ℕ) (booking : Booking) (bookings : List Booking) → find (is_numbered key number) bookings ≡ Some booking
    → find (is_numbered booking.key booking.number) bookings ≡ Some booking
found_by_own key number booking bookings found =
    let it = numbered key number booking (found_passes (is_numbered key number) bookings booking found) in
    ap (λ (k : List ℕ). find (is_numbered k booking.number) bookings) it.0 ∙ (ap (λ (n : ℕ). find (is_numbered key n) bookings) it.1 ∙ found)

pub filter_fixed : {X : Type 0} (p : X → Bool) (f : X → X) → ((x : X) → p x ≡ true → f x ≡ x) → (xs : List X) → map f (filter p xs) ≡ filter p xs
filter_fixed p f fixed [] = refl
filter_fixed p f fixed (x ∷ xs) = grind (arith, fixed x, filter_fixed p f fixed xs)

pub filter_same : {X : Type 0} (p q : X → Bool) (xs : List X) → All (λ x. p x ≡ q x) xs → filter p xs ≡ filter q xs
filter_same p q [] h = refl
filter_same p q (x ∷ xs) h = grind (arith, filter_same p q xs (All-tail (λ y. p y ≡ q y) x xs h), All-head (λ y. p y ≡ q y) x xs h)

pub filter_none : {X : Type 0} (p : X → Bool) (xs : List X) → All (λ x. p x ≡ false) xs → filter p xs ≡ []
filter_none p [] h = refl
filter_none p (x ∷ xs) h = rw (All-head (λ y. p y ≡ false) x xs h) (filter_none p xs (All-tail (λ y. p y ≡ false) x xs h))

pub filter-map : {X Y : Type 0} (f : X → Y) (p : Y → Bool) (xs : List X) → filter p (map f xs) ≡ map f (filter (λ x. p (f x)) xs)
filter-map f p [] = refl
filter-map f p (x ∷ xs) = grind (arith, filter-map f p xs)

pub filter-filter : {X : Type 0} (p q : X → Bool) (xs : List X) → filter p (filter q xs) ≡ filter (λ x. q x && p x) xs
filter-filter p q [] = refl
filter-filter p q (x ∷ xs) = grind (arith, filter-filter p q xs)

pub filter_twice : {X : Type 0} (p : X → Bool) (xs : List X) → filter p (filter p xs) ≡ filter p xs
filter_twice p xs = filter-filter p p xs ∙ filter_agree (λ x. p x && p x) p (λ x. grind arith) xs

pub filters_swap : {X : Type 0} (p q : X → Bool) (xs : List X) → filter p (filter q xs) ≡ filter q (filter p xs)
filters_swap p q xs = filter-filter p q xs ∙ (filter_agree (λ x. q x && p x) (λ x. p x && q x) (λ x. grind arith) xs ∙ sym (filter-filter q p xs))

pub sum-filter : {X : Type 0} (f : X → ℕ) (p : X → Bool) (xs : List X) → sum_by f (filter p xs) ≡ sum_by (λ x. cond (p x) (f x) 0) xs
sum-filter f p [] = refl
sum-filter f p (x ∷ xs) = grind (arith, sum-filter f p xs, sum_by-cons f x xs, sum_by-cons f x (filter p xs), sum_by-cons (λ y. cond (p y) (f y) 0) x xs)

pub sum-map : {X Y : Type 0} (f : X → Y) (g : Y → ℕ) (xs : List X) → sum_by g (map f xs) ≡ sum_by (λ x. g (f x)) xs
sum-map f g [] = refl
sum-map f g (x ∷ xs) = grind (arith, sum-map f g xs, sum_by-cons g (f x) (map f xs), sum_by-cons (λ y. g (f y)) x xs)

pub sum_less : {X : Type 0} (f g : X → ℕ) (xs : List X) → All (λ x. f x ≤ g x) xs → sum_by f xs ≤ sum_by g xs
sum_less f g [] h = omega arith
sum_less f g (x ∷ xs) h =
    omega (arith, sum_by-cons f x xs, sum_by-cons g x xs, sum_less f g xs (All-tail (λ y. f y ≤ g y) x xs h), All-head (λ y. f y ≤ g y) x xs h)

pub sum_no_more : {X : Type 0} (f : X → ℕ) (p : X → Bool) (edit : X → X) (xs : List X)
    → All (λ x. cond (p (edit x)) (f (edit x)) 0 ≤ cond (p x) (f x) 0) xs → sum_by f (filter p (map edit xs)) ≤ sum_by f (filter p xs)
sum_no_more {X} f p edit xs h =
    let part : X → ℕ = λ x. cond (p x) (f x) 0 in
    omega (arith, sum-filter f p (map edit xs), sum-map edit part xs, sum-filter f p xs, sum_less (λ x. part (edit x)) part xs h)

pub sum_in_parts : {X : Type 0} (f : X → ℕ) (q p : X → Bool) (xs : List X)
    → sum_by f (filter q xs) ≡ sum_by f (filter q (filter p xs)) + sum_by f (filter q (filter (λ x. not (p x)) xs))
sum_in_parts {X} f q p xs =
    let other = λ (x : X). not (p x) in
    let parts = sum_by-filter_both p other (λ _. refl) f (filter q xs) in
    grind (arith, filters_swap p q xs, filters_swap other q xs)

pub sum_one_more : {X : Type 0} (f : X → ℕ) (p : X → Bool) (xs : List X) (x : X)
    → sum_by f (filter p (xs ++ x ∷ [])) ≡ sum_by f (filter p xs) + cond (p x) (f x) 0
sum_one_more f p xs x =
    grind (arith, filter-append p xs (x ∷ []), sum_by-append f (filter p xs), sum_by-cons f x [])

abbrev pub basis_with : Club → Request → Key → Member → Basis
basis_with club request key member =
    record { key = key; member = member; bookings = bookings_of member.name club; state = state_of club (request_slot request) }

-- The pass names this key, and the key belongs to this member.
pub record Knows (club : Club) (words : Words) (key : Key) (member : Member) : Type 0 where
  pub key_name : key_of words.pass ≡ Some key.name
  pub known : key_named key.name club ≡ Some key
  pub owned : member_named key.member club ≡ Some member

key_is_named : (club : Club) (name : List ℕ) (key : Key) → key_named name club ≡ Some key → key.name ≡ name
key_is_named club name key = named (λ (k : Key). k.name) name club.keys key

pub known_rows : (club : Club) (words : Words) (basis : Basis) → basis_of club words ≡ Some basis → Knows club words basis.key basis.member
known_rows club words basis e = record { key_name = grind (arith, key_is_named club); known = grind (arith, key_is_named club); owned = grind arith }

pub whole_basis : (club : Club) (words : Words) (basis : Basis) → basis_of club words ≡ Some basis
    → basis ≡ basis_with club words.request basis.key basis.member
whole_basis club words basis e = grind arith

-- The reply names no booking, and reports no failure of memory or storage.
abbrev pub IsSilent : Reply → Type 0
IsSilent (Booked key number charge left) = ⊥
IsSilent (Cancelled key number refund) = ⊥
IsSilent (Refused refusals.Unavailable) = ⊥
IsSilent reply = Unit {0}

-- The row that a new booking inserts.
abbrev pub written : Club → Key → Slot → ℕ → ℕ → Facility → Booking
written club key slot number guests facility = record {
  key = key.name;
  number = number;
  slot = slot;
  guests = guests;
  charge = charge_of facility guests;
  left = facility.places - (taken_in slot club.bookings + guests + 1);
  cancelled = false;
  refund = 0;
}

pub record Books (club : Club) (key : Key) (member : Member) (slot : Slot) (number guests : ℕ) (facility : Facility) : Type 0 where
  pub new : booking_under key.name number club.bookings ≡ None
  pub located : facility_named slot.facility club ≡ Some facility
  pub opened : is_closed slot club ≡ false
  pub placed : nat_lt facility.places (taken_in slot club.bookings + guests + 1) ≡ false
  pub paid : nat_lt (balance_of member (bookings_of member.name club)) (charge_of facility guests) ≡ false

pub record Cancels (club : Club) (key : Key) (slot : Slot) (number : ℕ) (booking : Booking) : Type 0 where
  pub found : booking_under key.name number club.bookings ≡ Some booking
  pub same : same_slot booking.slot slot ≡ true
  pub still_booked : booking.cancelled ≡ false

-- The verdict has the property `P` in each of the five cases of an answer.
pub record Ways (P : Verdict → Type 0) (club : Club) (words : Words) (moment : ℕ) : Type 0 where
  pub silent : (reply : Reply) → IsSilent reply → P (verdicts.reply_only reply)
  pub repeats_booking : (key : Key) (member : Member) (slot : Slot) (number guests : ℕ) (booking : Booking) → Knows club words key member
      → words.request ≡ asked.Book slot number guests → booking_under key.name number club.bookings ≡ Some booking
      → (same_slot booking.slot slot && booking.guests == guests) ≡ true → P (verdicts.booked_before booking)
  pub books : (key : Key) (member : Member) (slot : Slot) (number guests : ℕ) (facility : Facility) → Knows club words key member
      → words.request ≡ asked.Book slot number guests → Books club key member slot number guests facility
      → P (verdicts.booked_now (written club key slot number guests facility) key.member)
  pub cancels_recorded : (key : Key) (member : Member) (slot : Slot) (number : ℕ) (booking : Booking) → Knows club words key member
      → words.request ≡ asked.Cancel slot number → booking_under key.name number club.bookings ≡ Some booking → same_slot booking.slot slot ≡ true
      → booking.cancelled ≡ true → P (verdicts.cancelled_before booking)
  pub cancels : (key : Key) (member : Member) (slot : Slot) (number : ℕ) (booking : Booking) → Knows club words key member
      → words.request ≡ asked.Cancel slot number → Cancels club key slot number booking
      → P (verdicts.cancelled_now booking key.member (refund_at booking moment))

pub is_own_key : (club : Club) (words : Words) (key : Key) (member : Member) → Knows club words key member → is_key_of member.name club key.name ≡ true
is_own_key club words key member k =
    let own = found_passes (λ (m : Member). bytes_eq m.name key.member) club.members member k.owned in
    let there = found_is_there (λ (other : Key). bytes_eq other.name key.name) club.keys key k.known in
    any-filter (λ (other : Key). bytes_eq other.name key.name) (λ (other : Key). bytes_eq other.member member.name) club.keys
    ∙ any_passes (λ (other : Key). bytes_eq other.member member.name && bytes_eq other.name key.name) club.keys key there
    (grind (arith, bytes_eq-Decides member.name key.member, bytes_eq-Decides key.member member.name, bytes_eq-Decides key.name key.name))

pub own_booking : (club : Club) (words : Words) (key : Key) (member : Member) (number : ℕ) → Knows club words key member
    → booking_under key.name number (bookings_of member.name club) ≡ booking_under key.name number club.bookings
own_booking club words key member number k =
    find-filter (is_numbered key.name number) (λ (booking : Booking). is_key_of member.name club booking.key) club.bookings
    (λ booking e. rw (numbered key.name number booking e).0 (is_own_key club words key member k))

module _ (P : Verdict → Type 0) (club : Club) (words : Words) (moment : ℕ) (w : Ways P club words moment) where
  verdict_cases : (key : Key) (member : Member) (request : Request) → Knows club words key member → words.request ≡ request
      → P (verdicts.verdict_of (view_of (basis_with club request key member) request moment) request moment)
  verdict_cases key member (asked.Book slot number guests) k r =
      rw (own_booking club words key member number k)
      (grind (arith, w.silent, w.books key member slot number guests, w.repeats_booking key member slot number guests))
  verdict_cases key member (asked.Cancel slot number) k r =
      rw (own_booking club words key member number k) (grind (arith, w.silent, w.cancels key member slot number, w.cancels_recorded key member slot number))
  verdict_cases key member request k r = grind (arith, w.silent)

  text_cases : (pass : Result Pass PassFault) (basis : Option Basis) → basis_of club words ≡ basis → P (answer_to pass words.request moment basis)
  text_cases (Ok pass) (Some basis) e =
      let decided = verdict_cases basis.key basis.member words.request (known_rows club words basis e) refl in
      let whole = whole_basis club words basis e in grind (arith, w.silent)
  text_cases pass basis e = grind (arith, w.silent)

  pub answer_cases : P (verdict_in club words moment)
  answer_cases = text_cases words.pass (basis_of club words) refl

-- The outcome of the office's cancellation has the property `P` in each case: the command fails,
-- the booking is already cancelled, or the command cancels the booking.
pub cancel_cases : (P : Outcome → Type 0) (club : Club) (key : List ℕ) (number : ℕ)
    → ((fault : OfficeFault) → P (command_outcome club (CancelBooking key number) (Err fault)))
    → ((booking : Booking) → booking_under key number club.bookings ≡ Some booking → booking.cancelled ≡ true
    → P (command_outcome club (CancelBooking key number) (Ok None)))
    → ((row : Key) (booking : Booking) → booking_under key number club.bookings ≡ Some booking → booking.cancelled ≡ false
    → P (command_outcome club (CancelBooking key number) (Ok (Some (MarkCancelled booking row.member booking.charge)))))
    → P (step club (Commanded (CancelBooking key number)))
cancel_cases P club key number fails again cancels = go (key_named key club) (booking_under key number club.bookings) refl
  where
    go : (row : Option Key) (found : Option Booking) → booking_under key number club.bookings ≡ found
        → P (command_outcome club (CancelBooking key number) (office_cancel_verdict row found))
    go (Some row) (Some booking) e = grind (arith, again booking, cancels row booking)
    go row found e = fails Unknown

module _ (P : Club → Type 0) (kept : (club : Club) (change : Change) → P club → P (after change club)) where
  kept_by_change : (club : Club) (change : Option Change) → P club → P (after_change change club)
  kept_by_change club None h = h
  kept_by_change club (Some change) h = kept club change h

  pub kept_by_step : (club : Club) (event : Event) → P club → P (step club event).club
  kept_by_step club (Asked words moment) h = kept_by_change club (verdict_in club words moment).change h
  kept_by_step club (Commanded command) h = go (office_verdict club command)
    where
      go : (verdict : Result (Option Change) OfficeFault) → P (command_outcome club command verdict).club
      go (Ok change) = kept_by_change club change h
      go (Err fault) = h

  pub kept_by_run : (club : Club) (events : List Event) → P club → P (club_after club events)
  kept_by_run club [] h = h
  kept_by_run club (event ∷ events) h = kept_by_run (step club event).club events (kept_by_step club event h)

pub club_after-append : (club : Club) (front rest : List Event) → club_after club (front ++ rest) ≡ club_after (club_after club front) rest
club_after-append club [] rest = refl
club_after-append club (event ∷ front) rest = club_after-append (step club event).club front rest

pub replies_of-append : (club : Club) (front rest : List Event) → replies_of club (front ++ rest) ≡ replies_of club front
    ++ replies_of (club_after club front) rest
replies_of-append club [] rest = refl
replies_of-append club (event ∷ front) rest = ap (λ (replies : List EventReply).
    (step club event).reply ∷ replies) (replies_of-append (step club event).club front rest)
