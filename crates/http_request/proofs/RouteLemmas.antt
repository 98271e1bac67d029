-- This file proves that every place of the desk has a route. It has lemmas about the parts of a path
-- between its slashes, and about matchit's search for the route of a path.
use Rattle.std.{proofs.lemmas.{Fmt.decimal_nonempty, Grind.common_steps}, specs.{Cmp.Lexicographic.pointwise, Fmt.decimal}}
use Rattle.club_values.specs.{Moment.day_text, Number.two_digits, declared.slot.Slot.Slot}
use Rattle.http_request.proofs.Common.{Bor, List, None, Option, Some, [], ap, cond, eqb, false, refl, segments, sym, true, with_front, ℕ, ◌∙◌, ◌∷◌, ◌≡◌}
use Rattle.http_request.proofs.Common.{account_at, at_slot, following_parts, is_some, zero, suc, ◌-◌, ◌<◌, ◌++◌, length, drop, ◌==◌, nat_eq, arith}
use Rattle.http_request.{proofs.Common.{length-append, IsSome, and_right, append-nil, codes, subst, eqb-true, ReadsPlaces}, specs.Path.{HasRealValues, IsPlace}}
use Rattle.http_request.specs.{Path.place_parts, Routes.KnowsPlaces, declared.path.Place.{Place, TheVariants.{SlotPlace, BookingPlace, AccountPlace}}}
use Rattle.matchit.specs.{Rows.{RowsOf, param_token}, Seek.{segment, has_slash, cuts, step, or_else, param_step, seek, first, own}}

pub first_part : (path : List ℕ) → (part : List ℕ) × (parts : List (List ℕ)) × (segments path ≡ part ∷ parts)
first_part [] = ([], [], refl)
first_part (byte ∷ path) = elim (eqb byte 47) as (λ b. (part : List ℕ) × (parts : List (List ℕ))
    × (cond b ([] ∷ segments path) (with_front (byte ∷ []) (segments path)) ≡ part ∷ parts)) [
      | true ↦ ([], segments path, refl)
      | false ↦ let rest = first_part path in (byte ∷ rest.0, rest.1, ap (with_front (byte ∷ [])) rest.2)
    ]

pub from_the_front : (path : List ℕ) → segments path ≡ with_front [] (segments path)
from_the_front path = let first = first_part path in first.2 ∙ sym (ap (with_front []) first.2)

pub past_number : (slot : Slot) (word number : List ℕ) (rest : Option (Bor (List ℕ))) → is_some rest ≡ true
    → at_slot slot (word ∷ number ∷ following_parts rest) ≡ None
past_number slot word number None e = cc
past_number slot word number (Some path) e = let first = first_part path.now in rw first.2 refl

pub past_account : (word : List ℕ) (rest : Option (Bor (List ℕ))) → is_some rest ≡ true → account_at word (following_parts rest) ≡ None
past_account word None e = cc
past_account word (Some path) e = let first = first_part path.now in rw first.2 refl

-- The rows of the router that still match after the given bytes of a path. Each of these rows has
-- only the rest of its route.
abbrev pub steps : {K : Type 0} → List ℕ → RowsOf K → RowsOf K
steps [] rs = rs
steps (b ∷ word) rs = steps word (step b rs)

some_first : {K : Type 0} (a b : Option K) → IsSome a → IsSome (or_else a b)
some_first a b is = grind arith

some_second : {K : Type 0} (a b : Option K) → IsSome b → IsSome (or_else a b)
some_second a b is = grind arith

pub over_bytes : {K : Type 0} (word : List ℕ) (rs : RowsOf K) (rest : List ℕ) → IsSome (seek 0 (steps word rs) rest) → IsSome (seek 0 rs (word ++ rest))
unfolding seek
over_bytes [] rs rest is = is
over_bytes (b ∷ word) rs rest is = some_first _ _ (over_bytes word (step b rs) rest is)

skipped : {K : Type 0} (part : List ℕ) (rs : RowsOf K) (rest : List ℕ) → seek (length part) rs (part ++ rest) ≡ seek 0 rs rest
unfolding seek
skipped [] rs rest = refl
skipped (b ∷ part) rs rest = skipped part rs rest

past : {K : Type 0} (gone : ℕ × RowsOf K) (b : ℕ) (part rest : List ℕ) (kept : RowsOf K) → gone ≡ (length (b ∷ part), kept) → IsSome (seek 0 kept rest)
    → IsSome (seek (gone.0 - 1) gone.1 (part ++ rest))
past gone b part rest kept e is = let less : length (b ∷ part) - 1 ≡ length part = omega arith in rw (e, less, skipped part kept rest) is

pub over_part : {K : Type 0} (rs ts kept : RowsOf K) (part rest : List ℕ) → 0 < length part → step param_token rs ≡ ts
    → param_step ts (part ++ rest) ≡ (length part, kept) → IsSome (seek 0 kept rest) → IsSome (seek 0 rs (part ++ rest))
unfolding seek
over_part rs ts kept [] rest some from takes is = let no : ⊥ = omega arith in absurd no
over_part rs ts kept (b ∷ part) rest some from takes is =
    some_second _ _ (some_first _ _ (past _ b part rest kept (ap (λ (r : _). param_step r (b ∷ part ++ rest)) from ∙ takes) is))

no_slash : (b : ℕ) (part : List ℕ) → has_slash (b ∷ part) ≡ false → ((b == 47) ≡ false) × (has_slash part ≡ false)
no_slash b part none = grind arith

segment_of : (part rest : List ℕ) → has_slash part ≡ false → segment (part ++ 47 ∷ rest) ≡ part ++ 47 ∷ []
segment_of [] rest none = refl
segment_of (b ∷ part) rest none = rw (no_slash b part none).0 (ap (λ (l : List ℕ). b ∷ l) (segment_of part rest (no_slash b part none).1))

last_segment : (part : List ℕ) → has_slash part ≡ false → segment part ≡ part
last_segment [] none = refl
last_segment (b ∷ part) none = rw (no_slash b part none).0 (ap (λ (l : List ℕ). b ∷ l) (last_segment part (no_slash b part none).1))

one_less : (part : List ℕ) → length (part ++ 47 ∷ []) - 1 ≡ length part
one_less part = rw (length-append part (47 ∷ [])) (omega arith)

cuts_slash : (part : List ℕ) → 0 < length part → cuts (part ++ 47 ∷ []) (47 ∷ []) ≡ true
cuts_slash part some = grind (arith, common_steps, length-append)

not_at : (n : ℕ) (part : List ℕ) → has_slash part ≡ false → pointwise nat_eq (47 ∷ []) (drop n part) ≡ false
not_at zero [] none = refl
not_at zero (b ∷ part) none = grind arith
not_at (suc n) [] none = refl
not_at (suc n) (b ∷ part) none = not_at n part (no_slash b part none).1

cuts_no_slash : (part : List ℕ) → has_slash part ≡ false → cuts part (47 ∷ []) ≡ false
cuts_no_slash part none = and_right _ _ (not_at (length part - 1) part none)

pub takes_two : {K : Type 0} (t s : List ℕ) (k j : K) (part rest : List ℕ) → 0 < length part → has_slash part ≡ false
    → param_step ((47 ∷ t, k) ∷ (47 ∷ s, j) ∷ []) (part ++ 47 ∷ rest) ≡ (length part, (47 ∷ t, k) ∷ (47 ∷ s, j) ∷ [])
unfolding param_step
takes_two t s k j part rest some none = rw (segment_of part rest none, cuts_slash part some, one_less part) refl

pub takes_one : {K : Type 0} (t : List ℕ) (k j : K) (part rest : List ℕ) → 0 < length part → has_slash part ≡ false
    → param_step ((47 ∷ t, k) ∷ ([], j) ∷ []) (part ++ 47 ∷ rest) ≡ (length part, (47 ∷ t, k) ∷ [])
unfolding param_step
takes_one t k j part rest some none = rw (segment_of part rest none, cuts_slash part some, one_less part) refl

pub takes_last : {K : Type 0} (t : List ℕ) (k j : K) (part : List ℕ) → has_slash part ≡ false
    → param_step ((47 ∷ t, k) ∷ ([], j) ∷ []) part ≡ (length part, (47 ∷ t, k) ∷ ([], j) ∷ [])
unfolding param_step
takes_last t k j part none = rw (last_segment part none, cuts_no_slash part none, none) refl

pub takes_end : {K : Type 0} (k : K) (part : List ℕ) → has_slash part ≡ false → param_step (([], k) ∷ []) part ≡ (length part, ([], k) ∷ [])
unfolding param_step
takes_end k part none = rw none refl

-- The path with the given parts, separated by slashes.
abbrev glued : List (List ℕ) → List ℕ
glued [] = []
glued (part ∷ []) = part
glued (part ∷ other ∷ parts) = part ++ 47 ∷ glued (other ∷ parts)

-- None of the given parts has a slash.
abbrev AreParts : List (List ℕ) → Type 0
AreParts [] = Unit {0}
AreParts (part ∷ parts) = (has_slash part ≡ false) × AreParts parts

parted : (path : List ℕ) → (path ≡ glued (segments path)) × AreParts (segments path)
parted [] = (refl, (refl, tt))
parted (byte ∷ path) =
    let first = first_part path in
    let before = rw first.2 at (parted path) in grind (arith, eqb-true byte 47)

-- The routes of the desk's three places: the account, a booking, and a slot.
abbrev pub routes : {K : Type 0} → K → K → K → RowsOf K
routes account booking slot = (codes "/account", account)
    ∷ (codes "/slots/" ++ param_token ∷ 47 ∷ param_token ∷ 47 ∷ param_token ∷ codes "/bookings/" ++ param_token ∷ [], booking)
    ∷ (codes "/slots/" ++ param_token ∷ 47 ∷ param_token ∷ 47 ∷ param_token ∷ [], slot) ∷ []

over_last : {K : Type 0} (rs ts kept : RowsOf K) (part : List ℕ) → 0 < length part → step param_token rs ≡ ts → param_step ts part ≡ (length part, kept)
    → IsSome (own kept) → IsSome (seek 0 rs part)
unfolding seek
over_last rs ts kept part some from takes is =
    let at : part ++ [] ≡ part = append-nil part in
    let all = over_part rs ts kept part [] some from (ap (param_step ts) at ∙ takes) is in rw at at all

has_account : {K : Type 0} (account booking slot : K) → IsSome (first (routes account booking slot) (codes "/account"))
unfolding seek
has_account account booking slot = over_bytes (codes "/account") (routes account booking slot) [] refl

some_day : (day : ℕ) → 0 < length (day_text day)
unfolding day_text
some_day day = omega arith

-- A route's parameter accepts the given part of a path.
abbrev IsPart : List ℕ → Type 0
IsPart part = (0 < length part) × (has_slash part ≡ false)

-- The rest of a booking's route and of a slot's route, after the day and the slash that follows it.
-- The rest of the slot's route is the hour. The rest of the booking's route is the hour,
-- `/bookings/` and the booking's number.
hour_routes : {K : Type 0} → K → K → RowsOf K
hour_routes booking slot = (param_token ∷ codes "/bookings/" ++ param_token ∷ [], booking) ∷ (param_token ∷ [], slot) ∷ []

at_hour : {K : Type 0} (account booking slot : K) (facility day rest : List ℕ) → IsPart facility → IsPart day → IsSome (seek 0 (hour_routes booking slot) rest)
    → IsSome (first (routes account booking slot) (codes "/slots/" ++ (facility ++ (47 ∷ (day ++ (47 ∷ rest))))))
unfolding hour_routes
at_hour account booking slot facility day rest f d is = over_bytes (codes "/slots/") (routes account booking slot) (facility ++ (47 ∷ (day ++ (47 ∷ rest))))
    (over_part _ _ _ facility (47 ∷ (day ++ (47 ∷ rest))) f.0 refl (takes_two _ _ _ _ facility (day ++ (47 ∷ rest)) f.0 f.1)
    (over_bytes (codes "/") _ (day ++ (47 ∷ rest)) (over_part _ _ _ day (47 ∷ rest) d.0 refl (takes_two _ _ _ _ day rest d.0 d.1)
    (over_bytes (codes "/") _ rest is))))

placed : {K : Type 0} (a b s : K) (place : Place) → HasRealValues place → AreParts (place_parts place)
    → IsSome (first (routes a b s) (47 ∷ glued (place_parts place)))
unfolding hour_routes
placed a b s (SlotPlace slot) real none =
    let hour = two_digits slot.hour in
    at_hour a b s slot.facility (day_text slot.day) hour (real.facility.nonempty, none.1.0) (some_day slot.day, none.1.1.0)
    (over_last _ _ _ hour (omega arith) refl (takes_last _ _ _ hour none.1.1.1.0) refl)
placed a b s (BookingPlace slot n) real none =
    let hour = two_digits slot.hour in
    let number = decimal n in
    at_hour a b s slot.facility (day_text slot.day) (hour ++ (codes "/bookings/" ++ number)) (real.0.facility.nonempty, none.1.0)
    (some_day slot.day, none.1.1.0)
    (over_part _ _ _ hour (codes "/bookings/" ++ number) (omega arith) refl (takes_one _ _ _ hour (codes "bookings/" ++ number) (omega arith) none.1.1.1.0)
    (over_bytes (codes "/bookings/") _ number
    (over_last _ _ _ number (decimal_nonempty n (omega (arith, real.1))) refl (takes_end _ number none.1.1.1.1.1.0) refl)))
placed a b s AccountPlace real none = has_account a b s

pub knows_places : {K : Type 0} → ReadsPlaces → (account booking slot : K) → KnowsPlaces (routes account booking slot)
knows_places reads account booking slot target place e =
    let is : IsPlace target place = (reads target (Some place)).1 e in
    let whole = parted is.path in
    let glued_parts : is.path ≡ glued (place_parts place) = whole.0 ∙ ap glued is.parts in
    rw (is.slash, glued_parts) (placed account booking slot place is.real (subst AreParts is.parts whole.1))
