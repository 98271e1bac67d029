-- Lemmas about the commands that SQLite compiles SQL texts into, and about SELECT queries of one
-- table.
use Rattle.std.{proofs.lemmas.{List.Kept.AllPairs-cons, Map.Text.is_eq-slice_cmp}, specs.declared.cmp.Ordering.Ordering}
use Rattle.club_tables.proofs.Common.{arith, nat_tests, ◌≡◌, ◌≢◌, ℕ, List, Ok, Some, slice_get, false, ◌==◌, if◌then◌else◌, [], ◌∷◌, sym, subst, ◌≤◌}
use Rattle.club_tables.proofs.Common.{AllByRecursion, Table, Database, IsDatabase, Schema, Command, CreateTable, CreateIndex, created, understood, IsPlain}
use Rattle.club_tables.proofs.Common.{command_of, statement_of, Trees, State, Executes, Facility, Key, Booking, club_schema, version_values, member_values}
use Rattle.club_tables.proofs.Common.{facility_values, key_values, slot_values, booking_values, older_values, MemberRow, Rows, SlotRow, OlderRow, Holds, rules}
use Rattle.club_tables.proofs.Common.{HoldsTrees, HoldsRows, members_tree, facilities_tree, keys_tree, slots_tree, bookings_tree, olders_tree, BoundStatement}
use Rattle.club_tables.proofs.Common.{table_defined_by, lacks_sequence, index_defined_by, Index, inl, inr, suc, ℤ, pos, Bool, true, cond, length, map, refl, ap}
use Rattle.club_tables.proofs.Common.{◌∙◌, ◌+◌, filter, find, flat_map, AllPairs, IsPermutation, IsSorted, AllZip, list_all, bytes_eq, is_eq, is_lt}
use Rattle.club_tables.proofs.Common.{IsPermutation-map, length_permutation, sorted_far, ranks_by, IsPermutation-refl, IsPermutation-cons, IsPermutation-middle}
use Rattle.club_tables.proofs.Common.{IsPermutation-trans, recursion_from_All, All-from_recursion, filter_passes, Int, Text, Blob, Null, Binary, value_cmp-Int}
use Rattle.club_tables.proofs.Common.{value_cmp-Text, value_cmp-Blob, Compare, Eq, binary, is_true, from_truth, Row, Term, Env, holds, eval_all, inner, end}
use Rattle.club_tables.proofs.Common.{IsAnswer, Output, output, Query, output_cmp, key_cmp, Select, Reads, Answers, one_permutation, IsRowOf, select, Has}
use Rattle.club_tables.proofs.Common.{map-map, filter-map, ascending-filter, ascending-map, all_of, pull_back, all-permutation, along_permutation, is_gt}
use Rattle.club_tables.proofs.Common.{IsTotalOrder, length-map, get_or-map, option_to_list, Contains, not, list_any, list_any_at, has_found, has_kept}
use Rattle.club_tables.proofs.Common.{contains_had, all_from, ap₂, overlay, IsAscending}
use Rattle.sqlite_value.specs.declared.keys.Key.{Key as SortKey}
pub use Rattle.sqlite_trees.proofs.ListLemmas.{filter_same, filter_none as none_pass}

-- SQLite compiles the SQL text into this command for a database with this schema.
pub record Means (schema : Schema) (text : List ℕ) (command : Command) : Type 0 where
  pub is : command_of (understood schema text) ≡ command
  pub plain : IsPlain (understood schema text)

-- The SQL text creates this table.
pub record Makes (schema : Schema) (text : List ℕ) (table : Table) : Type 0 where
  pub plain : IsPlain (understood schema text)
  pub is : command_of (understood schema text) ≡ CreateTable
  pub whole : statement_of text (understood schema text) ≡ text
  pub defined : table_defined_by text ≡ Ok table
  pub uncounted : lacks_sequence (created schema table) ≡ false

-- The SQL text creates this index.
pub record MakesIndex (schema : Schema) (text : List ℕ) (at : ℕ) (table : Table) (index : Index) : Type 0 where
  pub plain : IsPlain (understood schema text)
  pub listed : slice_get schema.tables at ≡ Some table
  pub is : command_of (understood schema text) ≡ CreateIndex at
  pub whole : statement_of text (understood schema text) ≡ text
  pub defined : index_defined_by table text ≡ Ok index

-- A statement changed only the table with this B-tree.
pub record Wrote (tables : Schema) (old new : Database) (tree : ℕ) : Type 0 where
  pub schema : new.schema ≡ tables
  pub others : AllByRecursion (λ (t : Table). t.tree ≢ tree → new.trees t.tree ≡ old.trees t.tree) tables.tables
  pub sound : IsDatabase new

-- The relation `P` holds after the statement has run on tables that contain these rows.
abbrev pub WhenRan : BoundStatement → Rows → (State → State → ℕ → Type 0) → Type 1
WhenRan statement rows P = (old new : State) (count : ℕ) → HoldsRows old.now rows → Executes statement.0 statement.1 old new (Ok count) → P old new count

abbrev pub Steps : BoundStatement → Rows → Rows → Type 1
Steps statement rows next = WhenRan statement rows (λ old new count. HoldsRows new.now next × (1 ≤ count))

pub trees_kept : {number : ℕ} {old new : Trees} {rows : Rows} → AllByRecursion (λ (t : Table). new t.tree ≡ old t.tree) club_schema.tables
    → HoldsTrees number old rows → HoldsTrees number new rows
trees_kept {number = number} {rows = rows} kept held = record {
  version = subst (λ rs. Holds version_values rs (number ∷ [])) (sym kept.0) held.version;
  members = subst (λ rs. Holds member_values rs rows.members) (sym kept.1.0) held.members;
  facilities = subst (λ rs. Holds facility_values rs rows.facilities) (sym kept.1.1.0) held.facilities;
  keys = subst (λ rs. Holds key_values rs rows.keys) (sym kept.1.1.1.0) held.keys;
  slots = subst (λ rs. Holds slot_values rs rows.slots) (sym kept.1.1.1.1.0) held.slots;
  bookings = subst (λ rs. Holds booking_values rs rows.bookings) (sym kept.1.1.1.1.1.0) held.bookings;
  olders = subst (λ rs. Holds older_values rs rows.olders) (sym kept.1.1.1.1.1.1.0) held.olders;
}

abbrev pub but : ℕ → Trees → Trees → Trees
but tree old new at = if at == tree then old at else new at

pub others_kept : (tree : ℕ) (old new : Trees) (ts : List Table) → AllByRecursion (λ (t : Table). t.tree ≢ tree → new t.tree ≡ old t.tree) ts
    → AllByRecursion (λ (t : Table). but tree old new t.tree ≡ old t.tree) ts
others_kept tree old new [] others = tt
others_kept tree old new (t ∷ ts) others = (one, others_kept tree old new ts others.1)
  where
    one : but tree old new t.tree ≡ old t.tree
    one = grind (arith, nat_tests, others.0)

module _ {old new : Database} {rows : Rows} (holds_rows : HoldsRows old rows) where
  kept : {tree : ℕ} → Wrote club_schema old new tree → HoldsTrees 2 (but tree old.trees new.trees) rows
  kept {tree = tree} wrote = trees_kept (others_kept tree old.trees new.trees club_schema.tables wrote.others) holds_rows.held

  pub on_members : Wrote club_schema old new members_tree → {members : List MemberRow} → Holds member_values (new.trees members_tree) members
      → HoldsRows new (record rows { members = members })
  on_members wrote held = let k = kept wrote in search rules

  pub on_facilities : Wrote club_schema old new facilities_tree → {facilities : List Facility} → Holds facility_values (new.trees facilities_tree) facilities
      → HoldsRows new (record rows { facilities = facilities })
  on_facilities wrote held = let k = kept wrote in search rules

  pub on_keys : Wrote club_schema old new keys_tree → {keys : List Key} → Holds key_values (new.trees keys_tree) keys
      → HoldsRows new (record rows { keys = keys })
  on_keys wrote held = let k = kept wrote in search rules

  pub on_slots : Wrote club_schema old new slots_tree → {slots : List SlotRow} → Holds slot_values (new.trees slots_tree) slots
      → HoldsRows new (record rows { slots = slots })
  on_slots wrote held = let k = kept wrote in search rules

  pub on_bookings : Wrote club_schema old new bookings_tree → {bookings : List Booking} → Holds booking_values (new.trees bookings_tree) bookings
      → HoldsRows new (record rows { bookings = bookings })
  on_bookings wrote held = let k = kept wrote in search rules

  pub on_olders : Wrote club_schema old new olders_tree → {olders : List OlderRow} → Holds older_values (new.trees olders_tree) olders
      → HoldsRows new (record rows { olders = olders })
  on_olders wrote held = let k = kept wrote in search rules

pub from_truth_is : (b : Bool) → is_true (from_truth (Some b)) ≡ b
from_truth_is b = grind arith

pub text_equal : (a b : List ℕ) → is_true (binary (Compare Eq Binary) (Text a) (Text b)) ≡ bytes_eq a b
unfolding binary
text_equal a b = from_truth_is _ ∙ ap is_eq (value_cmp-Text a b) ∙ is_eq-slice_cmp a b

pub blob_equal : (a b : List ℕ) → is_true (binary (Compare Eq Binary) (Blob a) (Blob b)) ≡ bytes_eq a b
unfolding binary
blob_equal a b = from_truth_is _ ∙ ap is_eq (value_cmp-Blob a b) ∙ is_eq-slice_cmp a b

pub whole_equal : (m n : ℕ) → is_true (binary (Compare Eq Binary) (Int (pos m)) (Int (pos n))) ≡ (m == n)
unfolding binary
whole_equal m n = grind (arith, nat_tests, value_cmp-Int)

pub pick_by_if : {A B : Type 0} (test : A → Bool) (f : A → B) (xs : List A) → flat_map (λ x. cond (test x) (f x ∷ []) []) xs ≡ map f (filter test xs)
pick_by_if test f [] = refl
pick_by_if test f (x ∷ xs) = grind (arith, pick_by_if test f xs)

pub find_first : {X : Type 0} (p : X → Bool) (xs : List X) → find p xs ≡ slice_get (filter p xs) 0
find_first p [] = refl
find_first p (x ∷ xs) = grind (arith, find_first p xs)

pub none_of : {X : Type 0} (xs : List X) → filter (λ x. false) xs ≡ []
none_of xs = none_pass (λ _. false) xs (all_of _ (λ _. refl) xs)

no_overlay : (db : Trees) (tree : ℕ) → overlay db [] tree ≡ db tree
no_overlay db tree = grind arith

pub plain_answer : {query : Query} {db : Database} {params : Row} {rows : List Row} → Answers db (record { lets = []; body = query }) params rows
    → IsAnswer query db.trees params rows
plain_answer {query = query} {db = db} {params = params} {rows = rows} h =
    subst (λ trees. IsAnswer query trees params rows) (λ i tree. no_overlay db.trees tree i) (h.answer Null)

pub shown_of : {query : Query} {trees : Trees} {params : Row} {rows : List Row} (a : IsAnswer query trees params rows) (staged : List Env) → a.staged ≡ staged
    → a.kept ≡ map (output query) a.staged → rows ≡ map (λ (o : Output). o.1) a.ordered → IsPermutation (map (λ env. (output query env).1) staged) rows
shown_of {query = query} {rows = rows} a staged is kept shown =
    let all = ap (map (λ (o : Output). o.1)) (kept ∙ ap (map (output query)) is) ∙ map-map (λ (o : Output). o.1) (output query) staged in
    subst (λ ys. IsPermutation ys rows) all
    (subst (IsPermutation (map (λ (o : Output). o.1) a.kept)) (sym shown) (IsPermutation-map (λ (o : Output). o.1) a.kept a.ordered a.same))

module _ (params : Row) (tests : List Term) (project : List Term) where
  abbrev pub test : Row → Bool
  test row = list_all (holds (params ∷ row ∷ [])) tests

  abbrev pub shows : Row → Row
  shows row = eval_all project (params ∷ row ∷ [])

  pub answered : (tree : ℕ) (db : Database) (rows : List Row) → Answers db (record { lets = []; body = select (inner tree end) tests project }) params rows
      → IsPermutation (map shows (filter test (db.trees tree))) rows
  answered tree db rows h =
      let a : IsAnswer (select (inner tree end) tests project) db.trees params rows = plain_answer h in
      simp map-map at (shown_of a _ (a.grouped ∙ pick_by_if test (λ row. params ∷ row ∷ []) (db.trees tree)) a.distinct a.shown)

-- The row of an element: its rowid, and then its values.
abbrev pub id_row : {X : Type 0} → (X → Row) → ℤ × X → Row
id_row values q = Int q.0 ∷ values q.1

pub lone_pair : {X : Type 0} (pairs : List (ℤ × X)) (x : X) → map (λ q. q.1) pairs ≡ x ∷ [] → (id : ℤ) × (pairs ≡ (id, x) ∷ [])
lone_pair (q ∷ []) x is = (q.0, let same : q.1 ≡ x = cc in ap (λ y. (q.0, y) ∷ []) same)
lone_pair _ x is = absurd cc

pub no_pair : {X : Type 0} (pairs : List (ℤ × X)) → map (λ q. q.1) pairs ≡ [] → pairs ≡ []
no_pair [] none = refl
no_pair (q ∷ pairs) none = absurd cc

pub record Paired {X : Type 0} (values : X → Row) (rows : List Row) (xs : List X) : Type 0 where
  pub pairs : List (ℤ × X)
  pub rows_are : rows ≡ map (id_row values) pairs
  pub xs_are : xs ≡ map (λ q. q.1) pairs

pub paired : {X : Type 0} (values : X → Row) (rows : List Row) (xs : List X) → AllZip (λ row x. IsRowOf (values x) row) rows xs → Paired values rows xs
paired values [] [] h = record { pairs = []; rows_are = refl; xs_are = refl }
paired values (r ∷ rows) (x ∷ xs) h =
    let more = paired values rows xs h.1 in
    record { pairs = (h.0.0, x) ∷ more.pairs; rows_are = ap₂ ◌∷◌ h.0.1 more.rows_are; xs_are = ap (λ ys. x ∷ ys) more.xs_are }
paired values _ _ h = absurd h

pub picked : {X B : Type 0} (values : X → Row) (p : X → Bool) (show : X → B) (passes : Row → Bool) (shown : Row → B)
    → ((id : ℤ) (x : X) → passes (Int id ∷ values x) ≡ p x) → ((id : ℤ) (x : X) → shown (Int id ∷ values x) ≡ show x) → (rows : List Row) (xs : List X)
    → AllZip (λ row x. IsRowOf (values x) row) rows xs → map shown (filter passes rows) ≡ map show (filter p xs)
picked values p show passes shown tested yields rows xs held =
    let it = paired values rows xs held in
    ap (λ rs. map shown (filter passes rs)) it.rows_are
    ∙ simp (filter-map, map-map) (λ i. map (λ q. yields q.0 q.1 i) (filter (λ q. tested q.0 q.1 i) it.pairs))
    ∙ sym (ap (λ ys. map show (filter p ys)) it.xs_are)

module _ {X : Type 0} (values : X → Row) (params : Row) (tests : List Term) (project : List Term) (p : X → Bool) (show : X → Row)
    (tested : (id : ℤ) (x : X) → list_all (holds (params ∷ (Int id ∷ values x) ∷ [])) tests ≡ p x)
    (shown : (id : ℤ) (x : X) → eval_all project (params ∷ (Int id ∷ values x) ∷ []) ≡ show x) where
  pub selected : (tree : ℕ) (names : List (List ℕ)) (db : Database) (xs : List X) (rows : List Row) → Holds values (db.trees tree) xs
      → Reads (Select (record { lets = []; body = select (inner tree end) tests project }) names) db params rows → IsPermutation (map show (filter p xs)) rows
  selected tree names db xs rows held h =
      subst (λ ys. IsPermutation ys rows) (picked values p show (test params tests project) (shows params tests project) tested shown (db.trees tree) xs
      held.same) (answered params tests project tree db rows h)

abbrev pub Apart : {X : Type 0} → (X → X → Type 0) → List X → Type 0
Apart = IsAscending

pub apart_from_pairs : {X : Type 0} (R : X → X → Type 0) (xs : List X) → AllPairs R xs → Apart R xs
apart_from_pairs R [] h = tt
apart_from_pairs R (x ∷ xs) h = (
  recursion_from_All (R x) xs (λ j d low. h 0 (suc j) d (omega arith) (omega arith)),
  apart_from_pairs R xs (λ i j d less low. h (suc i) (suc j) d (omega arith) (omega arith)),
)

pub pairs_from_apart : {X : Type 0} (R : X → X → Type 0) (xs : List X) → Apart R xs → AllPairs R xs
pairs_from_apart R [] apart = λ i j d less low. absurd (omega arith)
pairs_from_apart R (x ∷ xs) apart = AllPairs-cons R x xs (All-from_recursion (R x) xs apart.0) (pairs_from_apart R xs apart.1)

pub pairs_mapped : {X Y : Type 0} (R : Y → Y → Type 0) (f : X → Y) (back : Y → X) (xs : List X) → AllPairs (λ a b. R (f a) (f b)) xs → AllPairs R (map f xs)
pairs_mapped R f back xs pairs = pairs_from_apart R (map f xs) (ascending-map R f xs (apart_from_pairs (λ a b. R (f a) (f b)) xs pairs))

pub one_passes : {X : Type 0} (R : X → X → Type 0) (p : X → Bool) (xs : List X) → ((x y : X) → p x ≡ true → p y ≡ true → ¬ R x y) → Apart R xs
    → length (filter p xs) ≤ 1
one_passes {X} R p xs same apart = short (filter p xs) (recursion_from_All _ _ (filter_passes p xs)) (ascending-filter R p xs apart)
  where
    short : (ys : List X) → AllByRecursion (λ y. p y ≡ true) ys → Apart R ys → length ys ≤ 1
    short (y ∷ z ∷ ys) pass apart = absurd (same y z pass.0 pass.1.0 apart.0.0)
    short _ pass apart = omega arith

pub only : {X : Type 0} (xs : List X) (x : X) → length xs ≤ 1 → Has xs x → xs ≡ x ∷ []
only [] x low has = absurd has
only (y ∷ []) x low (inl is) = ap (λ z. z ∷ []) (sym is)
only (y ∷ []) x low (inr has) = absurd has
only (y ∷ z ∷ xs) x low has = absurd (omega arith)

pub one_listed : {X : Type 0} (p : X → Bool) (xs : List X) → length (filter p xs) ≤ 1 → filter p xs ≡ option_to_list (find p xs)
one_listed p [] low = refl
one_listed p (x ∷ xs) low = grind (arith, one_listed p xs)

-- These two elements don't both pass the test.
abbrev pub IsLone : {X : Type 0} → (X → Bool) → X → X → Type 0
IsLone p a b = ¬ ((p a ≡ true) × (p b ≡ true))

pub short_permutation : {X : Type 0} (xs ys : List X) → length xs ≤ 1 → IsPermutation xs ys → ys ≡ xs
short_permutation [] [] low h = refl
short_permutation [] (y ∷ ys) low h = absurd (omega (arith, length_permutation [] (y ∷ ys) h))
short_permutation (x ∷ []) ys low h = one_permutation x ys h
short_permutation (x ∷ x' ∷ xs) ys low h = absurd (omega arith)

IsSorted-from_map : {X Y : Type 0} (cmp : Y → Y → Ordering) (f : X → Y) (xs : List X) → IsSorted cmp (map f xs) → IsSorted (λ a b. cmp (f a) (f b)) xs
IsSorted-from_map cmp f xs sorted k d low high =
    rw (get_or-map f xs (k + 1) d (f d) high, get_or-map f xs k d (f d) (omega arith)) at (sorted k (f d) low (rw length-map high))

pub none_greater : {X : Type 0} (cmp : X → X → Ordering) → IsTotalOrder cmp → (xs : List X) → IsSorted cmp xs → AllPairs (λ a b. is_gt (cmp a b) ≡ false) xs
none_greater cmp total xs sorted i j d less low =
    ap is_gt (total.antisymm _ _) ∙ (grind arith) ∙ sorted_far (λ x y. is_lt (cmp x y)) (ranks_by total (λ x. x)) xs sorted i j d (omega arith) low

module _ {X : Type 0} (R : X → X → Type 0) (symmetric : (x y : X) → R x y → R y x) where
  abbrev Stays : List X → List X → Type 0
  Stays xs ys = IsPermutation xs ys × (Apart R xs → Apart R ys)

  pub apart-permutation : (xs ys : List X) → IsPermutation xs ys → Apart R xs → Apart R ys
  apart-permutation xs ys same = (along_permutation Stays
      (λ xs. (IsPermutation-refl xs, λ apart. apart))
      (λ x xs ys h. (IsPermutation-cons x xs ys h.0, λ apart. (all-permutation (R x) xs ys h.0 apart.0, h.1 apart.1)))
      (λ x y xs. (IsPermutation-middle (x ∷ []) y xs, λ apart. ((symmetric x y apart.0.0, apart.1.0), (apart.0.1, apart.1.1))))
      (λ xs ys zs h k. (IsPermutation-trans xs ys zs h.0 k.0, λ apart. k.1 (h.1 apart))) xs ys same).1

-- Lemmas about a query of one table with ORDER BY.

pub record InOrder {X : Type 0} (show : X → Row) (cmp : X → X → Ordering) (xs : List X) (rows : List Row) : Type 0 where
  pub ordered : List X
  pub same : IsPermutation xs ordered
  pub sorted : IsSorted cmp ordered
  pub shown : rows ≡ map show ordered

module _ {X : Type 0} (values : X → Row) (p : X → Bool) (show sort : X → Row) {params : Row} {tests project : List Term} {order : List (Term × SortKey)} where
  pub selected_in_order : {tree : ℕ} {db : Database} {rows : List Row}
      → Answers db (record { lets = []; body = record (select (inner tree end) tests project) { order = order } }) params rows
      → ((id : ℤ) (x : X) → list_all (holds (params ∷ (Int id ∷ values x) ∷ [])) tests ≡ p x)
      → ((id : ℤ) (x : X) → eval_all project (params ∷ (Int id ∷ values x) ∷ []) ≡ show x)
      → ((id : ℤ) (x : X) → eval_all (map (λ k. k.0) order) (params ∷ (Int id ∷ values x) ∷ []) ≡ sort x)
      → (xs : List X) → Holds values (db.trees tree) xs → InOrder show (λ x y. key_cmp 0 (map (λ k. k.1) order) (sort x) (sort y)) (filter p xs) rows
  selected_in_order {tree = tree} {db = db} {rows = rows} h tested shown keyed xs held =
      let q = record (select (inner tree end) tests project) { order = order } in
      let a : IsAnswer q db.trees params rows = plain_answer h in
      let out : X → Output = λ x. (sort x, show x) in
      let each : Row → Env = λ row. params ∷ row ∷ [] in
      let yields : (id : ℤ) (x : X) → output q (each (Int id ∷ values x)) ≡ out x = λ id x i. (keyed id x i, shown id x i) in
      let kept : a.kept ≡ map out (filter p xs) =
      a.distinct ∙ ap (map (output q)) (a.grouped ∙ pick_by_if (test params tests project) each (db.trees tree)) ∙ map-map (output q) each _
      ∙ picked values p out (test params tests project) (λ row. output q (each row)) tested yields (db.trees tree) xs held.same in
      let back = pull_back out a.kept a.ordered a.same (filter p xs) kept in
      record {
        ordered = back.0;
        same = back.1;
        sorted = IsSorted-from_map (output_cmp q) out back.0 (subst (IsSorted (output_cmp q)) back.2 a.sorted);
        shown = a.shown ∙ ap (map (λ (o : Output). o.1)) back.2 ∙ map-map (λ (o : Output). o.1) out back.0;
      }

pub as_many : {X : Type 0} (values : X → Row) (hit : Row → Bool) (p : X → Bool) → ((id : ℤ) (x : X) → hit (Int id ∷ values x) ≡ p x) → (rows : List Row)
    (xs : List X) → AllZip (λ row x. IsRowOf (values x) row) rows xs → length (filter hit rows) ≡ length (filter p xs)
as_many values hit p tested rows xs same =
    simp length-map at (ap length (picked {B = Unit {0}} values p (λ _. tt) hit (λ _. tt) tested (λ id x. refl) rows xs same))

pub find_some : {X : Type 0} (p : X → Bool) (xs : List X) → 1 ≤ length (filter p xs) → (x : X) × (find p xs ≡ Some x)
find_some {X} p xs some = go (filter p xs) (find_first p xs) some
  where
    go : (ys : List X) → find p xs ≡ slice_get ys 0 → 1 ≤ length ys → (x : X) × (find p xs ≡ Some x)
    go [] is some = absurd (omega arith)
    go (y ∷ ys) is some = (y, is)

pub any_filtered_is : {X : Type 0} (p : X → Bool) (xs : List X) → list_any p xs ≡ not (length (filter p xs) == 0)
any_filtered_is p [] = refl
any_filtered_is p (x ∷ xs) = grind (arith, nat_tests, any_filtered_is p xs)

pub any_counts : {X : Type 0} (p : X → Bool) (xs : List X) → list_any p xs ≡ true → 1 ≤ length (filter p xs)
any_counts p xs any = let is = any_filtered_is p xs in grind (arith, nat_tests)

pub contains_counts : {X : Type 0} (p : X → Bool) (xs : List X) (one : X) → Contains xs one → p one ≡ true → 1 ≤ length (filter p xs)
contains_counts p xs one has passes = any_counts p xs (list_any_at p xs has.0 one has.1 (ap p has.2 ∙ passes))

abbrev pub Implies : {X : Type 0} → (X → Bool) → (X → Bool) → Type 0
Implies {X} p q = (x : X) → p x ≡ true → q x ≡ true

pub agree : {X : Type 0} (p q : X → Bool) → Implies p q → (xs : List X) (one : X) → length (filter q xs) ≤ 1 → find p xs ≡ Some one
    → AllByRecursion (λ x. p x ≡ q x) xs
agree {X} p q implies xs one low is = all_from (λ x. p x ≡ q x) xs go
  where
    go : (x : X) → Has xs x → p x ≡ q x
    go x has =
        let it = has_found p xs one is in
        let lone : filter q xs ≡ one ∷ [] = only (filter q xs) one low (has_kept q xs one it.0 (implies one it.1)) in
        grind (arith, implies x, has_kept q xs x has, it.1)

pub found : {X : Type 0} (p : X → Bool) (xs : List X) (x : X) → find p xs ≡ Some x → Contains xs x × (p x ≡ true)
found p xs x h = let it = has_found p xs x h in (contains_had xs x it.0, it.1)

pub wider_is : {X : Type 0} (p q : X → Bool) → Implies p q → (xs : List X) → length (filter q xs) ≤ 1 → (x : X) → find p xs ≡ Some x
    → (find q xs ≡ Some x) × (p x ≡ true)
wider_is p q wide xs low x is =
    let same = ap (λ ys. slice_get ys 0) (filter_same p q xs (agree p q wide xs x low is)) in
    (find_first q xs ∙ sym same ∙ sym (find_first p xs) ∙ is, (found p xs x is).1)
