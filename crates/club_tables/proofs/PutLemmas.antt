-- Lemmas about statements of the form `INSERT .. ON CONFLICT .. DO UPDATE`, and about lists with
-- at most one row for each primary key.
use Rattle.club_tables.proofs.Common.{◌≡◌, ◌≤◌, inl, inr, ℕ, ◌/◌, ℤ, Bool, true, false, None, Some, Option, Ok, List, [], ◌∷◌, ◌++◌, length, map, slice_get}
use Rattle.club_tables.proofs.Common.{refl, sym, ap, subst, ◌∙◌, append-nil, arith, not, ◌==◌, filter, IsPermutation, is_eq, ordering_reverse, tied_itself}
use Rattle.club_tables.proofs.Common.{filter_agree, value_cmp_total, has_rowid, IsTable, Trees, put_row, rowid, filter-map, has_kept, has_filtered}
use Rattle.club_tables.proofs.Common.{one_permutation, IsPlain, command_of, list_any, and-true, Null, Int, Binary, Compare, Eq, Row, column, value_cmp, Term}
use Rattle.club_tables.proofs.Common.{col, op2, eval_all, inner, end, Values, Command, InsertOr, conflicts, AreConflicts, Table, cast_row, Edit, next_rowid}
use Rattle.club_tables.proofs.Common.{with_rowid, Chosen, Enforced, Written, Task, nothing, shown, count_of, Upserts, Clears, Puts, Resolves, Tries, TriesEach}
use Rattle.club_tables.proofs.Common.{Meets, value_rows, State, Executes, understood, table_of, club_schema, select, Holds, Equal-is, binary, is_true, Has}
use Rattle.club_tables.proofs.Common.{list_all, holds, and_comm, ◌&&◌, find, length_permutation, option_to_list, subst₂, if◌then◌else◌, Column, list_all-append}
use Rattle.club_tables.proofs.Common.{◌≢◌, cond, true≢false, option_map, AllPairs, unwrap_or, option_or, false_from_ne_true, slots_tree, find-append}
use Rattle.club_tables.proofs.Common.{list_any_at, Value, first_key, Slot, SlotUse, same_slot, slots_table, name_values, slot_values, SlotRow, no_slot_use}
use Rattle.club_tables.proofs.Common.{stored_slot_use, bytes_eq-Decides, nat_tests, ◌⊎◌, has_contained, Club, taken_in, row_of, Rows, IsStoredAs}
use Rattle.club_tables.proofs.{Common.all_pairs_push, JoinLemmas.{filter_filter, holds_more}, MemberLemmas.{same_slots, find_mapped, one_slot}}
use Rattle.club_tables.proofs.SelectLemmas.{IsLone, no_pair, one_listed, Apart, one_passes, test, shows, answered, id_row, Paired, paired, only, from_truth_is}
use Rattle.club_tables.proofs.SelectLemmas.{lone_pair, any_filtered_is, Means, Wrote, any_counts, find_some, found, apart_from_pairs, text_equal, whole_equal}
use Rattle.club_tables.proofs.{SelectLemmas.{pairs_mapped, find_first}, UpdateLemmas.{Leaves, task_of, went, same_value, wrote_rows, edited_alone, Updates}}
use Rattle.club_tables.proofs.UpdateLemmas.{update_leaves, no_works, replaced, Below}
use Rattle.sqlite_rules.specs.Action.{Writes as ActionWrites}
use Rattle.sqlite_schema.specs.declared.{command.{Conflict.TheVariants.Abort, Upsert.Upsert}, program.Program.Program, schema.Reference.Reference}

id_equal : (a b : ℤ) → is_true (binary (Compare Eq Binary) (Int a) (Int b)) ≡ is_eq (value_cmp (Int a) (Int b))
unfolding binary
id_equal a b = from_truth_is _

one_at : (id : ℤ) (rows : List Row) (row : Row) → IsTable rows → Has rows row → has_rowid id row ≡ true → filter (has_rowid id) rows ≡ row ∷ []
one_at id rows row rising has is =
    only (filter (has_rowid id) rows) row (one_passes Below (has_rowid id) rows (λ r s p q less.
    let tied = value_cmp_total.congr (rowid r) (Int id) (rowid s) ((Equal-is _).0 p) in
    let turned = value_cmp_total.antisymm (Int id) (rowid s) in
    let other = ap ordering_reverse ((Equal-is (value_cmp (rowid s) (Int id))).0 q) in
    absurd cc) rising) (has_kept (has_rowid id) rows row has is)

-- The condition that the rowid of a row equals a parameter.
abbrev pub is_there : ℕ → Term
is_there at = op2 (Compare Eq Binary) (col 1 0) (col 0 at)

abbrev pub first_clause : Command → Upsert
first_clause (InsertOr at way from (clause ∷ clauses)) = clause
first_clause _ = record { target = None; update = None }

-- The elements after the element that passes the test is changed, or after a new element is added.
abbrev pub put_among : {X : Type 0} → (X → Bool) → (X → X) → X → List X → List X
put_among p change one xs = if list_any p xs then map change xs else xs ++ one ∷ []

module _ (name : List ℕ) (columns : List Column) (keys : List (List ℕ)) (checks : List Term) (references : List Reference) (tree : ℕ) (target : Option (List ℕ))
  where
    abbrev table : Table
    table = record (table_of name columns keys checks references) { tree = tree }

    abbrev pub sets_by : List Term → ℕ → List Term → Option Program
    sets_by more at sets = Some (record { lets = []; body = select (inner tree end) (more ++ is_there at ∷ []) sets })

    pub record PutsRow (at : ℕ) (text : List ℕ) (terms more sets : List Term) (width there_at : ℕ) (clause : Upsert) : Type 0 where
      pub is : command_of (understood club_schema text) ≡ InsertOr at Abort (Values terms width) (clause ∷ [])
      pub plain : IsPlain (understood club_schema text)
      pub aims : clause.target ≡ target
      pub by : clause.update ≡ sets_by more there_at sets

    module _ (at : ℕ) (listed : slice_get club_schema.tables at ≡ Some table) (text : List ℕ) (terms more sets : List Term) (width there_at : ℕ)
        (clause : Upsert) (puts : PutsRow at text terms more sets width there_at clause)
        (old new : State) (has : old.now.schema ≡ club_schema) (params source : Row) (gives : value_rows params width (length terms / width) terms
        ≡ (Null ∷ source) ∷ [])
        (casts_source : cast_row table (Null ∷ source) ≡ Null ∷ source) (casts_new : (id : ℤ) → cast_row table (Int id ∷ source) ≡ Int id ∷ source) where
      abbrev db : Trees
      db = old.now.trees

      abbrev pub put_new_row : Row
      put_new_row = Int (next_rowid (db tree)) ∷ source

      abbrev pub env : Row → Row
      env there = params ++ rowid there ∷ shown table put_new_row

      abbrev task : Task
      task = task_of club_schema table old params

      abbrev hit : Row → Bool
      hit row = conflicts target club_schema.indexes table put_new_row row

      abbrev Meeting : List Row → Written → Type 0
      Meeting found one = Meets task (Upserts task Abort put_new_row db []) put_new_row db clause found (Ok one)

      record Ran (count : ℕ) : Type 0 where
        one : Written
        leaves : Leaves club_schema new count one
        found : List Row
        conflict : AreConflicts target club_schema.indexes table (db tree) put_new_row found
        meets : Meeting found one

      met : (one : Written) → Tries task Abort (clause ∷ []) put_new_row db (Ok one)
          → (found : List Row) × AreConflicts clause.target club_schema.indexes table (db tree) put_new_row found × Meeting found one
      met one (inl refused) = absurd (let e = refused.1 in cc)
      met one (inr (None, judged, tried)) = tried
      met one (inr (Some why, judged, tried)) = absurd cc

      ran : (count : ℕ) → Executes text params old new (Ok count) → Ran count
      ran count h =
          let means : Means club_schema text (InsertOr at Abort (Values terms width) (clause ∷ [])) = record { is = puts.is; plain = puts.plain } in
          let w = wrote_rows means at listed old new params count (λ w. w) (λ out does. does) has h in
          let given = went w.2 in
          let counter = went given.2 in
          let tried = went counter.2 in
          let written_count = went tried.2 in
          let sourced : given.0 ≡ (Null ∷ source) ∷ [] = given.1.1 ∙ ap (λ p. value_rows p width (length terms / width) terms) (append-nil params) ∙ gives in
          let first = went (subst (λ rows. TriesEach task Abort (clause ∷ []) rows (count_of counter.0) (nothing db) (Ok tried.0)) sourced tried.1) in
          let alone : Tries task Abort (clause ∷ []) put_new_row db (Ok first.0) =
          subst (λ row. Tries task Abort (clause ∷ []) (with_rowid Chosen (db tree) row) db (Ok first.0)) casts_source first.1 in
          let last = same_value first.2 in
          let is = same_value written_count.2 in
          let it = met first.0 alone in
          record {
            one = first.0;
            leaves = record {
              schema_is = w.1.schema_is;
              trees_are = w.1.trees_are ∙ ap (λ (w : Written). w.trees) is ∙ same_value written_count.1 ∙ ap (λ (p : Written × ℤ). p.0.trees) last;
              counted = w.1.counted ∙ ap (λ (w : Written). length w.rows) is ∙ ap (λ (p : Written × ℤ). length p.0.rows) last;
              sound = w.1.sound;
            };
            found = it.0;
            conflict = subst (λ target. AreConflicts target club_schema.indexes table (db tree) put_new_row it.0) puts.aims it.1;
            meets = it.2;
          }

      put_new : filter hit (db tree) ≡ [] → (count : ℕ) → Ran count
          → Wrote club_schema old.now new.now tree × (new.now.trees tree ≡ put_row put_new_row (db tree)) × (1 ≤ count)
      put_new none count it = go it.found it.conflict it.meets
        where
          cleared : (found : List Row) → Clears task Abort put_new_row db found (Ok it.one) → Puts task put_new_row db (Ok it.one)
          cleared [] h = h
          cleared (x ∷ found) h = h

          go : (found : List Row) → AreConflicts target club_schema.indexes table (db tree) put_new_row found → Meeting found it.one
              → Wrote club_schema old.now new.now tree × (new.now.trees tree ≡ put_row put_new_row (db tree)) × (1 ≤ count)
          go [] are h =
              let put = went (cleared h.0 h.2) in
              let edit : Row → Edit = λ row. record { table = table; gone = []; news = row ∷ [] } in
              let wrote = subst (λ row. ActionWrites club_schema Enforced db (edit row) (Ok put.0)) (casts_new (next_rowid (db tree))) put.1 in
              let is = same_value put.2 in
              let done = edited_alone old it.leaves (edit put_new_row) put.0 (no_works tree [] (put_new_row ∷ [])) wrote (ap (λ (w : Written). w.trees) is) in
              (done.0, done.1, omega (arith, it.leaves.counted, ap (λ (w : Written). length w.rows) is))
          go (x ∷ found) are h =
              let there = are.sound x (inl refl) in
              absurd (rw none at (has_kept hit (db tree) there.0 there.1 there.2))

      put_old : (row : Row) → filter hit (db tree) ≡ row ∷ [] → (count : ℕ) → Ran count
          → (there : Row) × (rowid there ≡ rowid row) × Updates old new table (select (inner tree end) (more ++ is_there there_at ∷ []) sets) (env there) count
      put_old row lone count it = go it.found it.conflict it.meets
        where
          go : (found : List Row) → AreConflicts target club_schema.indexes table (db tree) put_new_row found → Meeting found it.one
              → (there : Row) × (rowid there ≡ rowid row) × Updates old new table (select (inner tree end) (more ++ is_there there_at ∷ []) sets)
              (env there) count
          go [] are h =
              let has = has_filtered hit (db tree) row (rw lone (inl refl)) in
              absurd (are.complete row has.0 has.1)
          go (x ∷ found) are h =
              let there = are.sound x (inl refl) in
              let same : there.0 ≡ row = elim (rw lone at (has_kept hit (db tree) there.0 there.1 there.2)) [ inl is ↦ is | inr other ↦ absurd other ] in
              let some = subst (λ u. Resolves task put_new_row db x u (Ok it.one)) puts.by h in
              (x, ap rowid there.3 ∙ ap rowid same, update_leaves old params table it.leaves some)

      module _ {X : Type 0} (values : X → Row) (p : X → Bool) (change : X → X) (kept : (x : X) → p x ≡ false
          → change x ≡ x) (first : X) (hit_is : (id : ℤ) (x : X) → hit (Int id ∷ values x) ≡ p x)
          (casts : (id : ℤ) (x : X) → cast_row table (Int id ∷ values x) ≡ Int id ∷ values x) (xs : List X) (held : Holds values (db tree) xs)
          (lone : Apart (IsLone p) xs) (ids : (there : Row) → column (env there) there_at ≡ rowid there) where
        abbrev with_ids : Paired values (db tree) xs
        with_ids = paired values (db tree) xs held.same

        abbrev tests : List Term
        tests = more ++ is_there there_at ∷ []

        listed_one : filter p xs ≡ option_to_list (find p xs)
        listed_one = one_listed p xs (one_passes (IsLone p) p xs (λ x y a b apart. apart (a, b)) lone)

        hits_are : filter hit (db tree) ≡ map (id_row values) (filter (λ q. p q.1) with_ids.pairs)
        hits_are =
            ap (filter hit) with_ids.rows_are ∙ filter-map hit (id_row values) with_ids.pairs
            ∙ ap (map (id_row values)) (filter_agree _ _ (λ q. hit_is q.0 q.1) with_ids.pairs)

        passing : map (λ q. q.1) (filter (λ q. p q.1) with_ids.pairs) ≡ option_to_list (find p xs)
        passing = sym (ap (filter p) with_ids.xs_are ∙ filter-map p (λ (q : ℤ × X). q.1) with_ids.pairs) ∙ listed_one

        any_is : (o : Option X) → find p xs ≡ o → list_any p xs ≡ not (length (option_to_list o) == 0)
        any_is o is = any_filtered_is p xs ∙ ap (λ ys. not (length ys == 0)) (listed_one ∙ ap option_to_list is)

        hit_by : (there : Row) (one : ℤ × X) → column (env there) there_at ≡ Int one.0 → Has (db tree) (id_row values one)
            → filter (test (env there) tests sets) (db tree) ≡ filter (λ row. list_all (holds (env there ∷ row ∷ [])) more) (id_row values one ∷ [])
        hit_by there one of has =
            let allowed : Row → Bool = λ row. list_all (holds (env there ∷ row ∷ [])) more in
            let each : (q : ℤ × X) → test (env there) tests sets (id_row values q) ≡ (has_rowid one.0 (id_row values q) && allowed (id_row values q)) = λ q.
            let its : holds (env there ∷ id_row values q ∷ []) (is_there there_at) ≡ has_rowid one.0 (id_row values q) = rw of (id_equal q.0 one.0) in
            list_all-append (holds (env there ∷ id_row values q ∷ [])) more (is_there there_at ∷ [])
            ∙ ap (λ b. allowed (id_row values q) && b) (and-true _ ∙ its) ∙ and_comm (allowed (id_row values q)) (has_rowid one.0 (id_row values q)) in
            ap (filter (test (env there) tests sets)) with_ids.rows_are ∙ filter-map _ (id_row values) with_ids.pairs
            ∙ ap (map (id_row values)) (filter_agree _ (λ q. has_rowid one.0 (id_row values q) && allowed (id_row values q)) each with_ids.pairs)
            ∙ sym (ap (filter (λ row. has_rowid one.0 row && allowed row)) with_ids.rows_are
            ∙ filter-map (λ row. has_rowid one.0 row && allowed row) (id_row values) with_ids.pairs) ∙ sym (filter_filter allowed (has_rowid one.0) (db tree))
            ∙ ap (filter allowed) (one_at one.0 (db tree) (id_row values one) held.rising has (ap is_eq (tied_itself value_cmp_total (Int one.0))))

        -- The statement updates the row of this element, if the row meets the conditions of the clause.
        record Changed (x : X) (count : ℕ) : Type 0 where
          id : ℤ
          alone : filter (λ q. p q.1) with_ids.pairs ≡ (id, x) ∷ []
          there : Row
          put : Updates old new table (select (inner tree end) tests sets) (env there) count
          answer : IsPermutation (map (shows (env there) tests sets) (filter (λ row. list_all (holds (env there ∷ row ∷ [])) more)
              (id_row values (id, x) ∷ []))) put.rows

        changed_one : (x : X) → find p xs ≡ Some x → (count : ℕ) → Executes text params old new (Ok count) → Changed x count
        changed_one x is count executed =
            let one = lone_pair (filter (λ q. p q.1) with_ids.pairs) x (passing ∙ ap option_to_list is) in
            let hits : filter hit (db tree) ≡ id_row values (one.0, x) ∷ [] = hits_are ∙ ap (map (id_row values)) one.1 in
            let up = put_old (id_row values (one.0, x)) hits count (ran count executed) in
            record {
              id = one.0;
              alone = one.1;
              there = up.0;
              put = up.2;
              answer = subst (λ rs. IsPermutation (map (shows (env up.0) tests sets) rs) up.2.rows)
                  (hit_by up.0 (one.0, x) (ids up.0 ∙ up.1) (has_filtered hit (db tree) (id_row values (one.0, x)) (rw hits (inl refl))).0)
                  (answered (env up.0) tests sets tree (record { schema = club_schema; trees = db }) up.2.rows up.2.answers);
            }

        abbrev IsPut : ℕ → List X → Type 0
        IsPut count left = Wrote club_schema old.now new.now tree × Holds values (new.now.trees tree) left × (1 ≤ count)

        pub row_put : (find p xs ≡ None → source ≡ values first) → ((x : X) → find p xs ≡ Some x → (id : ℤ) (there : Row)
            → (list_all (holds (env there ∷ (Int id ∷ values x) ∷ [])) more ≡ true)
            × (eval_all sets (env there ∷ (Int id ∷ values x) ∷ []) ≡ Int id ∷ Int id ∷ values (change x)))
            → (count : ℕ) → Executes text params old new (Ok count) → IsPut count (put_among p change first xs)
        row_put same yields count executed = by (find p xs) refl
          where
            by : (o : Option X) → find p xs ≡ o → IsPut count (put_among p change first xs)
            by None none =
                let put = put_new (hits_are ∙ ap (map (id_row values)) (no_pair _ (passing ∙ ap option_to_list none))) count (ran count executed) in
                let grown = subst (λ vs. Holds values (put_row (Int (next_rowid (db tree)) ∷ vs) (db tree)) (xs ++ first ∷ [])) (sym (same none))
                (holds_more values (db tree) xs first held) in
                rw (any_is None none) (put.0, subst (λ rs. Holds values rs (xs ++ first ∷ [])) (sym put.1) grown, put.2)
            by (Some x) is =
                let it = changed_one x is count executed in
                let yielded = yields x is it.id it.there in
                let row : it.put.rows ≡ (Int it.id ∷ Int it.id ∷ values (change x)) ∷ [] =
                one_permutation _ it.put.rows (rw yielded.0 at it.answer) ∙ ap (λ r. r ∷ []) yielded.1 in
                let left = replaced values p change kept table (record { schema = club_schema; trees = db }) it.put.rows with_ids.pairs with_ids.rows_are
                (subst IsTable with_ids.rows_are held.rising) (it.id, x) it.alone row (casts it.id (change x)) in
                rw (any_is (Some x) is) (
                  it.put.wrote,
                  subst₂ (λ rs ys. Holds values rs (map change ys)) (sym it.put.left) (sym with_ids.xs_are) left,
                  omega (arith, it.put.counted, ap length row),
                )

        pub row_allowed : (allows : X → Bool) → ((id : ℤ) (there : Row) (x : X) → list_all (holds (env there ∷ (Int id ∷ values x) ∷ [])) more ≡ allows x)
            → (count : ℕ) → Executes text params old new (Ok count) → 1 ≤ count → (x : X) → find p xs ≡ Some x → allows x ≡ true
        row_allowed allows allowed count executed some x is = by (allows x) refl
          where
            by : (b : Bool) → allows x ≡ b → allows x ≡ true
            by true passes = passes
            by false fails =
                let it = changed_one x is count executed in
                let none = length_permutation [] it.put.rows (rw (allowed it.id it.there x ∙ fails) at it.answer) in
                absurd (omega (arith, some, it.put.counted, none))

pub absent : {X : Type 0} (p : X → Bool) (xs : List X) → list_any p xs ≡ false → find p xs ≡ None
absent p [] none = refl
absent p (x ∷ xs) none = grind (arith, absent p xs)

module _ {X K : Type 0} (key_of : X → K) (same : K → K → Bool) (same_keys : (a b : K) → same a b ≡ true → a ≡ b) (itself : (a : K) → same a a ≡ true)
    (key : K) where
  abbrev is_of : X → Bool
  is_of x = same (key_of x) key

  abbrev Differ : X → X → Type 0
  Differ a b = key_of a ≢ key_of b

  abbrev named : K → List X → Option X
  named name rows = find (λ (x : X). same (key_of x) name) rows

  pub lone : (rows : List X) → AllPairs Differ rows → Apart (IsLone is_of) rows
  lone rows once = apart_from_pairs (IsLone is_of) rows (λ i j d less low both.
      once i j d less low (same_keys _ key both.0 ∙ sym (same_keys _ key both.1)))

  module _ (changed : X → X) (kept : (x : X) → key_of (changed x) ≡ key_of x) (first : X) (of_key : key_of first ≡ key) where
    abbrev put : Bool → List X → List X
    put any rows = if any then map changed rows else rows ++ first ∷ []

    pub put_once : (rows : List X) → AllPairs Differ rows → AllPairs Differ (put (list_any is_of rows) rows)
    put_once rows once = go (list_any is_of rows) refl
      where
        go : (any : Bool) → list_any is_of rows ≡ any → AllPairs Differ (put any rows)
        go true any = pairs_mapped Differ changed (λ x. x) rows (λ i j d less low e. once i j d less low (sym (kept _) ∙ e ∙ kept _))
        go false none = all_pairs_push Differ rows first once (λ k d low e.
            true≢false (sym (list_any_at is_of rows k d low (ap (λ n. same n key) (e ∙ of_key) ∙ itself key)) ∙ none))

    found_changed : (name : K) (rows : List X) → named name (map changed rows) ≡ option_map changed (named name rows)
    found_changed name rows = find_mapped (λ (x : X). same (key_of x) name) changed rows ∙ (λ i. option_map changed (find (λ x. same (kept x i) name) rows))

    module _ {V : Type 0} (shown : Option X → V) (next : V → V) (shows : (x : X) → is_of x ≡ true → shown (Some (changed x)) ≡ next (shown (Some x)))
        (stays : (x : X) → is_of x ≡ false → changed x ≡ x) (makes : shown (Some first) ≡ next (shown None)) where
      unchanged : (name : K) (rows : List X) → same key name ≡ false → (o : Option X) → named name rows ≡ o → shown (option_map changed o) ≡ shown o
      unchanged name rows other o is = grind (arith, stays, same_keys, found (λ (y : X). same (key_of y) name) rows)

      pub by_put : (name : K) (rows : List X) → shown (named name (put (list_any is_of rows) rows))
          ≡ (if same key name then next (shown (named name rows)) else shown (named name rows))
      by_put name rows = go (list_any is_of rows) refl (same key name) refl
        where
          pushed : named name (rows ++ first ∷ []) ≡ option_or (named name rows) (cond (same key name) (Some first) None)
          pushed = find-append (λ (x : X). same (key_of x) name) rows (first ∷ [])
              ∙ ap (λ k. option_or (named name rows) (cond (same k name) (Some first) None)) of_key

          go : (any : Bool) → list_any is_of rows ≡ any → (b : Bool) → same key name ≡ b → shown (named name (put any rows))
              ≡ (if b then next (shown (named name rows)) else shown (named name rows))
          go true any true is =
              let mine : is_of ≡ (λ x. same (key_of x) name) = ap (λ k x. same (key_of x) k) (same_keys key name is) in
              let one = find_some is_of rows (any_counts is_of rows any) in
              ap shown (found_changed name rows) ∙ subst (λ o. shown (option_map changed o) ≡ next (shown o)) (sym one.1 ∙ ap (λ p. find p rows) mine)
              (shows one.0 (found is_of rows one.0 one.1).1)
          go true any false other = ap shown (found_changed name rows) ∙ unchanged name rows other (named name rows) refl
          go false none b is =
              let empty = λ (mine : same key name ≡ true). ap (λ k. named k rows) (sym (same_keys key name mine)) ∙ absent is_of rows none in
              grind (arith, pushed, makes, empty)

abbrev pub slot_table : Table
slot_table = record slots_table { tree = slots_tree }

pub slots_conflict : (id id' : ℤ) (a : SlotRow) (b : Slot) (v w : Value) → conflicts (Some (1 ∷ 2 ∷ 3 ∷ [])) club_schema.indexes slot_table (Int id'
    ∷ name_values b ++ v ∷ w ∷ []) (Int id ∷ slot_values a) ≡ same_slot a.slot b
unfolding first_key
slots_conflict id id' a b v w = grind (arith, text_equal, whole_equal)

pub same_itself : (slot : Slot) → same_slot slot slot ≡ true
same_itself slot = grind (arith, nat_tests, bytes_eq-Decides)

pub not_same : (a b : Slot) → a ≢ b → same_slot a b ≡ false
not_same a b apart = false_from_ne_true (same_slot a b) (λ same. apart (same_slots a b same))

module _ (slot : Slot) (change : SlotUse → SlotUse) where
  abbrev pub changed : SlotRow → SlotRow
  changed row = record row { held = if same_slot row.slot slot then change row.held else row.held }

  abbrev pub new_row : SlotRow
  new_row = record { slot = slot; held = change no_slot_use }

  -- The rows of slots after the slot's row is updated, or inserted if the slot had no row.
  abbrev pub put_slot : List SlotRow → List SlotRow
  put_slot = put_among (λ row. same_slot row.slot slot) changed new_row

  pub same_row : (row : SlotRow) → same_slot row.slot slot ≡ false → changed row ≡ row
  same_row row fails = ap (λ b. let r : SlotRow = record row { held = if b then change row.held else row.held } in r) fails

  pub use_put : (s : Slot) (rows : List SlotRow)
      → stored_slot_use s (put_slot rows) ≡ (if same_slot slot s then change (stored_slot_use s rows) else stored_slot_use s rows)
  use_put s rows =
      by_put (λ (row : SlotRow). row.slot) same_slot same_slots same_itself slot changed (λ row. refl) new_row refl
      (λ found. unwrap_or (option_map (λ (row : SlotRow). row.held) found) no_slot_use) change
      (λ row passes. ap (λ b. if b then change row.held else row.held) passes) same_row refl s rows

  pub slot_once : (rows : List SlotRow) → AllPairs (λ (a : SlotRow) (b : SlotRow). a.slot ≢ b.slot) rows
      → AllPairs (λ (a : SlotRow) (b : SlotRow). a.slot ≢ b.slot) (put_slot rows)
  slot_once = put_once (λ (row : SlotRow). row.slot) same_slot same_slots same_itself slot changed (λ row. refl) new_row refl

pub the_slot : (slot : Slot) (rows : List SlotRow) (x : SlotRow) → AllPairs (λ (a : SlotRow) (b : SlotRow). a.slot ≢ b.slot) rows → Has rows x → x.slot ≡ slot
    → row_of slot rows ≡ Some x
the_slot slot rows x once has same =
    let is_of : SlotRow → Bool = λ row. same_slot row.slot slot in
    find_first is_of rows ∙ ap (λ ys. slice_get ys 0) (only (filter is_of rows) x (one_slot slot rows once)
    (has_kept is_of rows x has (ap (λ s. same_slot s slot) same ∙ same_itself slot)))

module _ (club : Club) (rows : Rows) (stored : IsStoredAs club rows) where
  taken_by : (slot : Slot) (o : Option SlotRow) → row_of slot rows.slots ≡ o
      → (unwrap_or (option_map (λ (row : SlotRow). row.held) o) no_slot_use).taken ≡ taken_in slot club.bookings
  taken_by slot o is =
      ap (λ p. (unwrap_or (option_map (λ (row : SlotRow). row.held) p) no_slot_use).taken) (sym is) ∙ ap (λ (u : SlotUse). u.taken) (stored.slots slot)

  pub row_taken : (row : SlotRow) → Has rows.slots row → row.held.taken ≡ taken_in row.slot club.bookings
  row_taken row has = taken_by row.slot (Some row) (the_slot row.slot rows.slots row stored.once has refl)

  pub slot_taken_by : (slot : Slot) → (0 ≡ taken_in slot club.bookings)
      ⊎ ((row : SlotRow) × Has rows.slots row × (row.slot ≡ slot) × (row.held.taken ≡ taken_in slot club.bookings))
  slot_taken_by slot = by (row_of slot rows.slots) refl
    where
      by : (o : Option SlotRow) → row_of slot rows.slots ≡ o → (0 ≡ taken_in slot club.bookings)
          ⊎ ((row : SlotRow) × Has rows.slots row × (row.slot ≡ slot) × (row.held.taken ≡ taken_in slot club.bookings))
      by None is = inl (taken_by slot None is)
      by (Some row) is =
          let here = found (λ (r : SlotRow). same_slot r.slot slot) rows.slots row is in
          inr (row, has_contained rows.slots row here.0, same_slots row.slot slot here.1, taken_by slot (Some row) is)
