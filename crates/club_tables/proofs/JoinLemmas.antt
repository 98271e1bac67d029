-- Lemmas about queries of two joined tables or with EXISTS, about appending a row to a table, and
-- about the values that rows are decoded into.
use Rattle.std.proofs.{Common.sum_by, lemmas.List.Concat.length-flat_map}
use Rattle.club_tables.proofs.Common.{◌≡◌, ℕ, zero, suc, ◌+◌, ◌<◌, Bool, List, [], ◌∷◌, ◌++◌, length, take, map, refl, sym, subst, ◌∙◌, arith, Option, All}
use Rattle.club_tables.proofs.Common.{slice_index_or, option_map, AllByRecursion, take_more, All-from_recursion, truth, Booking, Club, IsBooking, Slot, SlotUse}
use Rattle.club_tables.proofs.Common.{slot_use, booking_values, HasValues, ShowsDay, AreBookings, IsUse, IsFirst, IsBookingIn, IsBookingNamed, option_to_list}
use Rattle.club_tables.proofs.Common.{ℤ, pos, ◌+ℤ◌, Less, ap, int_cmp_is, AllZip, fold, Int, value_cmp_total, value_cmp-Int, id_in, IsRowOf, Holds, AreRowsOf}
use Rattle.club_tables.proofs.Common.{ShowsUse, option_map_id, ints, true, false, cond, ◌||◌, ◌&&◌, ◌≤◌, min, filter, flat_map, IsPermutation, list_all}
use Rattle.club_tables.proofs.Common.{list_any, length-map, Term, Env, holds, eval_all, inner, end, IsAnswer, output, counted, Select, Database, Reads, Answers}
use Rattle.club_tables.proofs.Common.{map-map, map-flat_map, flat_map-map, flat_map_same_on, length-append, is_true, select, Has, has_kept, nat_tests, some_has}
use Rattle.club_tables.proofs.SelectLemmas.{as_many, Apart, pick_by_if, plain_answer, picked, none_of, shown_of, id_row as row_of, paired as with_rowids}
use Rattle.club_tables.proofs.SelectLemmas.{any_filtered_is}
use Rattle.sqlite_rules.specs.Edit.{next_rowid}
use Rattle.sqlite_trees.{proofs.TreeLemmas.IsTable-put_row, specs.Tree.{rowid, put_row, IsTable}}
use Rattle.sqlite_value.specs.Order.{Row, value_cmp}

abbrev IsKeyed : Row → Type 0
IsKeyed row = (id : ℤ) × (rowid row ≡ Int id)

keyed_of : {X : Type 0} (values : X → Row) (rows : List Row) (xs : List X) → AllZip (λ row x. IsRowOf (values x) row) rows xs → AllByRecursion IsKeyed rows
keyed_of values (r ∷ rows) (x ∷ xs) h = ((h.0.0, ap rowid h.0.1), keyed_of values rows xs h.1)
keyed_of values [] xs h = tt
keyed_of values (r ∷ rows) [] h = absurd h

abbrev after : ℤ → List Row → ℤ
after = fold (λ _ r. id_in (rowid r) +ℤ pos 1)

one_below : (r : Row) → IsKeyed r → value_cmp (rowid r) (Int (id_in (rowid r) +ℤ pos 1)) ≡ Less
one_below r h = rw h.1 (value_cmp-Int h.0 (h.0 +ℤ pos 1) ∙ sym (int_cmp_is h.0 (h.0 +ℤ pos 1) Less (omega (arith, ints))))

all_below : (z : ℤ) (rows : List Row) → IsTable rows → AllByRecursion IsKeyed rows → AllByRecursion (λ r. value_cmp (rowid r) (Int (after z rows)) ≡ Less) rows
all_below z [] table keyed = tt
all_below z (r ∷ []) table keyed = (one_below r keyed.0, tt)
all_below z (r ∷ s ∷ rows) table keyed =
    let more = all_below (id_in (rowid r) +ℤ pos 1) (s ∷ rows) table.1 keyed.1 in
    (value_cmp_total.trans _ _ _ table.0.0 more.0, more)

put_above : (new : Row) (rows : List Row) → AllByRecursion (λ r. value_cmp (rowid r) (rowid new) ≡ Less) rows → put_row new rows ≡ rows ++ new ∷ []
put_above new [] h = refl
put_above new (r ∷ rows) h = rw (h.0, put_above new rows h.1)

pub zip_more : {X : Type 0} (R : Row → X → Type 0) (rows : List Row) (xs : List X) (row : Row) (x : X) → AllZip R rows xs → R row x
    → AllZip R (rows ++ row ∷ []) (xs ++ x ∷ [])
zip_more R [] [] row x h one = (one, tt)
zip_more R (r ∷ rows) (y ∷ xs) row x h one = (h.0, zip_more R rows xs row x h.1 one)
zip_more R _ _ row x h one = absurd h

pub holds_more : {X : Type 0} (values : X → Row) (rows : List Row) (xs : List X) (x : X) → Holds values rows xs
    → Holds values (put_row (Int (next_rowid rows) ∷ values x) rows) (xs ++ x ∷ [])
holds_more values rows xs x held =
    let new = Int (next_rowid rows) ∷ values x in
    record {
      rising = IsTable-put_row new rows held.rising;
      same = rw (put_above new rows (all_below (pos 1) rows held.rising (keyed_of values rows xs held.same)))
          (zip_more (λ row y. IsRowOf (values y) row) rows xs new x held.same (next_rowid rows, refl));
    }

pub holds_none : {X : Type 0} (values : X → Row) (rows : List Row) → rows ≡ [] → Holds values rows []
holds_none values rows none = rw none (record { rising = tt; same = tt })

pub truths : (a b : Bool) → truth a ≡ truth b → a ≡ b
truths a b h = grind arith

pub one_booking : (a b : Booking) → HasValues (booking_values a) (booking_values b) → b ≡ a
one_booking a b h = grind (arith, truths)

pub bookings_of_rows : (bookings others : List Booking) → AreBookings (map booking_values bookings) others → others ≡ bookings
bookings_of_rows [] [] h = refl
bookings_of_rows (a ∷ bookings) (b ∷ others) h = let first = one_booking a b h.0.1 in let more = bookings_of_rows bookings others h.1 in cc
bookings_of_rows _ _ h = absurd h

pub day_of_rows : (club : Club) (day : ℕ) (rows : List Row) (bookings : List Booking) → ShowsDay club day rows → AreBookings rows bookings
    → AreRowsOf club day bookings
day_of_rows club day rows bookings shows are =
    let read = subst (λ rs. AreBookings rs bookings) shows.2 are in
    subst (AreRowsOf club day) (sym (bookings_of_rows shows.0 bookings read)) shows.1

pub within_limits : (rows : List Row) (bookings : List Booking) → AreBookings rows bookings → All IsBooking bookings
within_limits rows bookings are = All-from_recursion IsBooking bookings (each rows bookings are)
  where
    each : (rows : List Row) (bookings : List Booking) → AreBookings rows bookings → AllByRecursion IsBooking bookings
    each (r ∷ rows) (b ∷ bookings) h = (h.0.0, each rows bookings h.1)
    each _ [] h = tt
    each [] (b ∷ bookings) h = absurd h

abbrev IsOfRow : Row → Booking → Type 0
IsOfRow row booking = IsBooking booking × HasValues row (booking_values booking)

pub bookings_more : (rows : List Row) (k : ℕ) (row : Row) (bookings : List Booking) (b : Booking) → k < length rows → row ≡ slice_index_or rows k row
    → AreBookings (take k rows) bookings → IsOfRow row b → AreBookings (take (k + 1) rows) (bookings ++ b ∷ [])
bookings_more rows k row bookings b low is are of =
    let next : take (k + 1) rows ≡ take k rows ++ row ∷ [] = take_more rows k row low ∙ (λ i. take k rows ++ (sym is) i ∷ []) in
    rw next (zip_more IsOfRow (take k rows) bookings row b are of)

booking_at : (rows : List Row) (bookings : List Booking) (k : ℕ) (d : Row) → AreBookings rows bookings → k < length rows → (b : Booking)
    × IsOfRow (slice_index_or rows k d) b
booking_at [] bookings k d are low = absurd (omega arith)
booking_at (r ∷ rows) [] k d are low = absurd are
booking_at (r ∷ rows) (b ∷ bookings) zero d are low = (b, are.0)
booking_at (r ∷ rows) (b ∷ bookings) (suc k) d are low = booking_at rows bookings k d are.1 (omega arith)

pub no_bookings : (rows : List Row) (k : ℕ) (row : Row) → k < length rows → row ≡ slice_index_or rows k row → ((b : Booking) → ¬ (IsOfRow row b))
    → (bookings : List Booking) → ¬ (AreBookings rows bookings)
no_bookings rows k row low is none bookings are =
    let there = booking_at rows bookings k row are low in
    none there.0 (subst (λ r. IsOfRow r there.0) (sym is) there.1)

pub use_is : (club : Club) (slot : Slot) (rows : List Row) (found : SlotUse) → ShowsUse club slot rows → IsUse rows found → found ≡ slot_use club slot
use_is club slot rows found shows is = grind (arith, truths)

pub first_of : {X A : Type 0} (values : X → Row) (into : X → A) (Yields : Row → A → Type 0) → ((x : X) (a : A) → Yields (values x) a → a ≡ into x)
    → (held : Option X) (rows : List Row) (found : Option A) → rows ≡ map values (option_to_list held) → IsFirst Yields rows found
    → found ≡ option_map into held
first_of values into Yields one held rows found is first = grind (arith, one)

pub first_held : {X : Type 0} (values : X → Row) (Fits : X → Type 0) → ((a b : X) → HasValues (values a) (values b) → b ≡ a)
    → (held : Option X) (rows : List Row) (found : Option X) → rows ≡ map values (option_to_list held)
    → IsFirst (λ row x. Fits x × HasValues row (values x)) rows found → found ≡ held
first_held {X} values Fits one held rows found is first =
    first_of values (λ (x : X). x) (λ row x. Fits x × HasValues row (values x)) (λ a b yielded. one a b yielded.1) held rows found is first ∙ option_map_id held

pub unnamed : (key : List ℕ) (number : ℕ) (rows : List Row) (found : Option Booking) → IsFirst (IsBookingNamed key number) rows found
    → IsFirst IsBookingIn rows found
unnamed key number rows found h = grind arith

pub filter_filter : {X : Type 0} (p q : X → Bool) (xs : List X) → filter p (filter q xs) ≡ filter (λ x. q x && p x) xs
filter_filter p q [] = refl
filter_filter p q (x ∷ xs) = grind (arith, filter_filter p q xs)

either_counts : {X : Type 0} (p s : X → Bool) → ((x : X) → p x ≡ true → s x ≡ false) → (xs : List X)
    → length (filter (λ x. p x || s x) xs) ≡ length (filter p xs) + length (filter s xs)
either_counts p s apart [] = refl
either_counts p s apart (x ∷ xs) = grind (arith, apart x, either_counts p s apart xs)

module _ {X Y : Type 0} (paired : X → Y → Bool) where
  abbrev pub IsElsewhere : X → X → Type 0
  IsElsewhere a b = (y : Y) → paired a y ≡ true → paired b y ≡ false

  none_else : (x : X) (y : Y) → paired x y ≡ true → (xs : List X) → AllByRecursion (IsElsewhere x) xs → list_any (λ other. paired other y) xs ≡ false
  none_else x y h [] apart = refl
  none_else x y h (other ∷ xs) apart = let here = apart.0 y h in rw here (none_else x y h xs apart.1)

  pub pairs_counted : (xs : List X) (ys : List Y) → Apart IsElsewhere xs
      → length (flat_map (λ x. filter (paired x) ys) xs) ≡ length (filter (λ y. list_any (λ x. paired x y) xs) ys)
  pairs_counted [] ys apart = ap length (sym (none_of ys))
  pairs_counted (x ∷ xs) ys apart =
      let either = either_counts (paired x) (λ y. list_any (λ other. paired other y) xs) (λ y h. none_else x y h xs apart.0) ys in
      omega (arith, length-append (filter (paired x) ys) (flat_map (λ other. filter (paired other) ys) xs), either, pairs_counted xs ys apart.1)

module _ (params : Row) (tests : List Term) (project : List Term) where
  abbrev pub joins : Row → Row → Bool
  joins a b = list_all (holds (params ∷ a ∷ b ∷ [])) tests

  abbrev pub shows_both : Row → Row → Row
  shows_both a b = eval_all project (params ∷ a ∷ b ∷ [])

  pub answered_both : (outer inside : ℕ) (db : Database) (rows : List Row)
      → Answers db (record { lets = []; body = select (inner outer (inner inside end)) tests project }) params rows
      → IsPermutation (flat_map (λ a. map (shows_both a) (filter (joins a) (db.trees inside))) (db.trees outer)) rows
  answered_both outer inside db rows h =
      let a : IsAnswer (select (inner outer (inner inside end)) tests project) db.trees params rows = plain_answer h in
      let below : Row → List Env = λ x. map (λ y. params ∷ x ∷ y ∷ []) (filter (joins x) (db.trees inside)) in
      let staged : a.staged ≡ flat_map below (db.trees outer) = a.grouped ∙ simp pick_by_if in
      simp (map-flat_map, map-map) at (shown_of a (flat_map below (db.trees outer)) staged a.distinct a.shown)

module _ {X Y : Type 0} (outer_values : X → Row) (values : Y → Row) (p : X → Y → Bool) (show : Y → Row) {params : Row} {tests project : List Term} where
  pub selected_both : {outer inside : ℕ} {db : Database} {rows : List Row}
      → Answers db (record { lets = []; body = select (inner outer (inner inside end)) tests project }) params rows
      → ((i j : ℤ) (x : X) (y : Y) → list_all (holds (params ∷ (Int i ∷ outer_values x) ∷ (Int j ∷ values y) ∷ [])) tests ≡ p x y)
      → ((i j : ℤ) (x : X) (y : Y) → eval_all project (params ∷ (Int i ∷ outer_values x) ∷ (Int j ∷ values y) ∷ []) ≡ show y) → (xs : List X) (ys : List Y)
      → Holds outer_values (db.trees outer) xs → Holds values (db.trees inside) ys → IsPermutation (flat_map (λ x. map show (filter (p x) ys)) xs) rows
  selected_both {outer = outer} {inside = inside} {db = db} {rows = rows} h tested shown xs ys held_outer held =
      let it = with_rowids outer_values (db.trees outer) xs held_outer.same in
      let shows_of = λ (a : Row). map (shows_both params tests project a) (filter (joins params tests project a) (db.trees inside)) in
      let all = ap (flat_map shows_of) it.rows_are ∙ simp flat_map-map (λ i. flat_map (λ q.
      picked values (p q.1) show (joins params tests project (row_of outer_values q)) (shows_both params tests project (row_of outer_values q))
      (λ id y. tested q.0 id q.1 y) (λ id y. shown q.0 id q.1 y) (db.trees inside) ys held.same i) it.pairs)
      ∙ sym (ap (flat_map (λ x. map show (filter (p x) ys))) it.xs_are) in
      subst (λ zs. IsPermutation zs rows) all (answered_both params tests project outer inside db rows h)

abbrev pub is_counted : ℕ → Bool
is_counted n = is_true (Int (pos (min 1 n)))

pub counted_some : {X : Type 0} (xs : List X) → 1 ≤ length xs → is_counted (length xs) ≡ true
counted_some xs some = grind arith

module _ (params : Row) (inside_tests tests project : List Term) where
  abbrev pub passes_inside : Row → Row → Bool
  passes_inside row other = list_all (holds (params ∷ row ∷ other ∷ [])) inside_tests

  abbrev pub with_count : ℕ → Row → Env
  with_count n row = params ∷ row ∷ (Int (pos (min 1 n)) ∷ []) ∷ []

  abbrev pub count_in : List Row → Row → ℕ
  count_in others row = length (filter (passes_inside row) others)

  abbrev pub passes : List Row → Row → Bool
  passes others row = list_all (holds (with_count (count_in others row) row)) tests

  abbrev pub shown : List Row → Row → Row
  shown others row = eval_all project (with_count (count_in others row) row)

  pub answered_counted : (outer inside : ℕ) (db : Database) (rows : List Row)
      → Answers db (record { lets = []; body = select (inner outer (counted 1 (inner inside end) inside_tests end)) tests project }) params rows
      → IsPermutation (map (shown (db.trees inside)) (filter (passes (db.trees inside)) (db.trees outer))) rows
  answered_counted outer inside db rows h =
      let a : IsAnswer (select (inner outer (counted 1 (inner inside end) inside_tests end)) tests project) db.trees params rows = plain_answer h in
      let staged = map (λ row. with_count (count_in (db.trees inside) row) row) (filter (passes (db.trees inside)) (db.trees outer)) in
      simp map-map at (shown_of a staged (a.grouped ∙ simp (pick_by_if, length-map)) a.distinct a.shown)

  pub counts_elements : {X : Type 0} (values : X → Row) (p : X → Bool) → ((id : ℤ) (row : Row) (x : X) → passes_inside row (Int id ∷ values x) ≡ p x)
      → (others : List Row) (xs : List X) → Holds values others xs → (row : Row) → count_in others row ≡ length (filter p xs)
  counts_elements values p tested others xs held row = as_many values (passes_inside row) p (λ id x. tested id row x) others xs held.same

has_some : {X : Type 0} (xs : List X) (x : X) → Has xs x → 1 ≤ length xs
has_some [] x has = absurd has
has_some (y ∷ xs) x has = omega arith

lengths_alike : {X A B : Type 0} (f : X → List A) (g : X → List B) → ((x : X) → length (f x) ≡ length (g x)) → (xs : List X)
    → length (flat_map f xs) ≡ length (flat_map g xs)
lengths_alike f g same xs = length-flat_map f xs ∙ (λ i. sum_by (λ x. same x i) xs) ∙ sym (length-flat_map g xs)

count_mapped : {X A B : Type 0} (f : X → A → B) (g : X → List A) (xs : List X) → length (flat_map (λ x. map (f x) (g x)) xs) ≡ length (flat_map g xs)
count_mapped f g = lengths_alike (λ x. map (f x) (g x)) g (λ x. length-map (g x) (f x))

any_pair : {X Y : Type 0} (p : X → Y → Bool) (xs : List X) (ys : List Y) → 1 ≤ length (flat_map (λ x. filter (p x) ys) xs)
    → list_any (λ x. list_any (p x) ys) xs ≡ true
any_pair p [] ys some = absurd (omega arith)
any_pair p (x ∷ xs) ys some = grind (arith, nat_tests, length-append, any_filtered_is (p x) ys, any_pair p xs ys)

pub pair_found : {X Y : Type 0} (p : X → Y → Bool) (xs : List X) (ys : List Y) → 1 ≤ length (flat_map (λ x. filter (p x) ys) xs)
    → (x : X) × Has xs x × (y : Y) × Has ys y × (p x y ≡ true)
pair_found p xs ys some =
    let one = some_has (λ x. list_any (p x) ys) xs (any_pair p xs ys some) in
    let other = some_has (p one.0) ys one.2 in
    (one.0, one.1, other.0, other.1, other.2)

pub pair_counts : {X Y : Type 0} (p : X → Y → Bool) (xs : List X) (ys : List Y) (x : X) (y : Y) → Has xs x → Has ys y → p x y ≡ true
    → 1 ≤ length (flat_map (λ z. filter (p z) ys) xs)
pair_counts p [] ys x y has there passes = absurd has
pair_counts p (z ∷ xs) ys x y has there passes =
    grind (arith, has_some (filter (p x) ys) y (has_kept (p x) ys y there passes), length-append, pair_counts p xs ys x y)

pub as_many_pairs : {X Y : Type 0} (values : X → Row) (hit : Row → Row → Bool) (p : X → Y → Bool) (others : List Row) (ys : List Y)
    → ((id : ℤ) (x : X) → length (filter (hit (Int id ∷ values x)) others) ≡ length (filter (p x) ys)) → (rows : List Row) (xs : List X)
    → AllZip (λ row x. IsRowOf (values x) row) rows xs → length (flat_map (λ row. filter (hit row) others) rows) ≡ length (flat_map (λ x. filter (p x) ys) xs)
as_many_pairs values hit p others ys each rows xs same =
    let it = with_rowids values rows xs same in
    ap (λ rs. length (flat_map (λ row. filter (hit row) others) rs)) it.rows_are ∙ simp flat_map-map (lengths_alike _ _ (λ q. each q.0 q.1) it.pairs)
    ∙ sym (ap (λ zs. length (flat_map (λ x. filter (p x) ys) zs)) it.xs_are)

module _ (params : Row) (inside_tests pair_tests tests project : List Term) where
  abbrev counts : ℕ → Row
  counts n = Int (pos (min 1 n)) ∷ []

  abbrev pub with_counts : ℕ → ℕ → Row → Env
  with_counts n m row = params ∷ row ∷ counts n ∷ counts m ∷ []

  abbrev pub joins_inside : ℕ → Row → Row → Row → Bool
  joins_inside n row a b = list_all (holds (params ∷ row ∷ counts n ∷ a ∷ b ∷ [])) pair_tests

  abbrev pub pairs_in : List Row → List Row → ℕ → Row → ℕ
  pairs_in ones twos n row = length (flat_map (λ a. filter (joins_inside n row a) twos) ones)

  abbrev count_of : List Row → Row → ℕ
  count_of others row = length (filter (passes_inside params inside_tests tests project row) others)

  abbrev pub passes_both : List Row → List Row → List Row → Row → Bool
  passes_both others ones twos row = list_all (holds (with_counts (count_of others row) (pairs_in ones twos (count_of others row) row) row)) tests

  abbrev pub shown_both : List Row → List Row → List Row → Row → Row
  shown_both others ones twos row = eval_all project (with_counts (count_of others row) (pairs_in ones twos (count_of others row) row) row)

  pub answered_counted_both : (outer inside one two : ℕ) (db : Database) (rows : List Row) → Answers db (record {
    lets = [];
    body = select (inner outer (counted 1 (inner inside end) inside_tests (counted 1 (inner one (inner two end))
        pair_tests end))) tests project;
  }) params rows → IsPermutation (map (shown_both (db.trees inside) (db.trees one) (db.trees two))
      (filter (passes_both (db.trees inside) (db.trees one) (db.trees two)) (db.trees outer))) rows
  answered_counted_both outer inside one two db rows h =
      let query = select (inner outer (counted 1 (inner inside end) inside_tests (counted 1 (inner one (inner two end)) pair_tests end))) tests project in
      let a : IsAnswer query db.trees params rows = plain_answer h in
      let passing = filter (passes_both (db.trees inside) (db.trees one) (db.trees two)) (db.trees outer) in
      let last : Row → Env = λ row.
      with_counts (count_of (db.trees inside) row) (pairs_in (db.trees one) (db.trees two) (count_of (db.trees inside) row) row) row in
      simp map-map at (shown_of a (map last passing) (a.grouped ∙ simp (pick_by_if, length-map, count_mapped)) a.distinct a.shown)
