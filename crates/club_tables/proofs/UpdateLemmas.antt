-- Lemmas about INSERT and CREATE statements, and about UPDATE statements that change at most one
-- row.
use Rattle.club_tables.proofs.Common.{◌≡◌, ◌≢◌, ◌⊎◌, ◌≤◌, inl, inr, ℕ, ◌/◌, Bool, false, cond, None, Some, Option, Ok, Err, Result, List, [], ◌∷◌, length, map}
use Rattle.club_tables.proofs.Common.{slice_get, sym, ap, subst, subst₂, ◌∙◌, append-nil, arith, MatchBool, drop, unwrap_or, length-map, AllByRecursion, Value}
use Rattle.club_tables.proofs.Common.{Null, Int, Row, Trees, put_row, Term, Schema, Table, Values, Command, Insert, CreateTable, CreateIndex, created}
use Rattle.club_tables.proofs.Common.{next_tree, is_used, KeepsRows, cast, cast_row, Chosen, Above, Edit, edit_of, edited, next_rowid, with_rowid, taken_by}
use Rattle.club_tables.proofs.Common.{works, Enforced, Written, Task, stamped, count_of, rowids_for, Error, Database, IsDatabase, value_rows, understood, State}
use Rattle.club_tables.proofs.Common.{mode_of, Runs, Writes, Executes, statement_of, runs_as, one_step, lacks_sequence, Integer, Index, indexed, ℤ, ◌==◌, true}
use Rattle.club_tables.proofs.Common.{refl, not, Less, Greater, flat_map, filter, find, IsPermutation, length_permutation, AllZip, filter_map, value_cmp, Query}
use Rattle.club_tables.proofs.Common.{inner, end, Update, Given, work_by, pairs, deed_for, Answers, club_schema, select, Holds, IsRowOf, is_eq}
use Rattle.club_tables.proofs.Common.{ordering_reverse, tied_itself, value_cmp_total, rowid, has_rowid, without_rowid, IsTable, filter-map, filter_all}
use Rattle.club_tables.proofs.Common.{filter_same, all_weaker, all_from_map, ascending-map, ascending_from_map, all_has, has_filtered, one_permutation}
use Rattle.club_tables.proofs.{Common.{HoldsRows, Rows, option_to_list, parent_key, ap₂}, SelectLemmas.{Makes, MakesIndex, Means, Wrote, WhenRan, answered}}
use Rattle.club_tables.proofs.SelectLemmas.{shows, test, id_row as row_of, paired, lone_pair, one_listed, as_many, find_some, Implies, agree, contains_counts}
use Rattle.club_tables.proofs.SelectLemmas.{found, wider_is}
use Rattle.sqlite.specs.{Does.{Tally, Does, OnTable, OnRows, WritesRows}, Ops.unary, Rows.Updates as WritesUpdate}
use Rattle.sqlite_rules.{proofs.RowLemmas.length-numbered, specs.{Action.Writes as ActionWrites, Calls.ids_of}}
pub use Rattle.sqlite_trees.proofs.ListLemmas.{all_of as each_of}

pub went : {B E R : Type 0} {b : B} {Stops : E → Type 0} → ((stop : E) × Stops stop × (Ok b ≡ Err stop)) ⊎ R → R
went (inl stopped) = absurd (let e = stopped.2 in cc)
went (inr on) = on

pub same_value : {B E : Type 0} {a b : B} → ◌≡◌ {A = Result B E} (Ok a) (Ok b) → a ≡ b
same_value e = cc

pub either : (b : Bool) (x : Value) → cond b x x ≡ x
either b x = grind arith

pub cast_null : cast Integer Null ≡ Null
unfolding unary
cast_null = either _ Null

pub cast_int : (n : _) → cast Integer (Int n) ≡ Int n
unfolding unary
cast_int n = either _ (Int n)

uncounts : (b x : Bool) (Y G : Type 0) → b ≡ false → MatchBool (cond b x false) Y G → G
uncounts b x Y G none h = subst (λ b. MatchBool (cond b x false) Y G) none h

-- CREATE TABLE creates an empty table, and doesn't change the other tables.
pub table_created : {schema : Schema} {text : List ℕ} {table : Table} → Makes schema text table → (old new : State) → old.now.schema ≡ schema
    → (count : ℕ) → Executes text [] old new (Ok count)
    → (is_used schema table.name ≡ false) × (new.now.schema ≡ created schema table) × (new.now.trees (next_tree schema) ≡ [])
    × KeepsRows schema.tables old.now.trees new.now.trees
table_created {schema = schema} {text = text} {table = table} makes old new has count h =
    let w = subst (λ t. Writes old new None CreateTable t [] count) makes.whole (runs_as text [] old new schema has CreateTable makes.is makes.plain count h) in
    let all = went w.changed in
    let first = went all.1 in
    let made = first.1 in
    let same : made.table ≡ table = same_value (sym made.defined ∙ makes.defined) in
    let after : first.0.schema ≡ created schema table = made.is ∙ ap (λ s. created s made.table) has ∙ ap (created schema) same in
    let none : lacks_sequence first.0.schema ≡ false = ap lacks_sequence after ∙ makes.uncounted in
    let now : new.now ≡ first.0 = ap (λ (p : Tally × Database). p.1) (same_value all.2) ∙ same_value (rw none at first.2) in (
      subst₂ (λ (s : Schema) (t : Table). is_used s t.name ≡ false) has same made.free,
      ap (λ (d : Database). d.schema) now ∙ after,
      ap (λ (d : Database). d.trees (next_tree schema)) now ∙ subst (λ s. first.0.trees (next_tree s) ≡ []) has made.empty,
      subst (λ (d : Database). KeepsRows schema.tables old.now.trees d.trees) (sym now)
          (subst (λ (s : Schema). KeepsRows s.tables old.now.trees first.0.trees) has made.others),
    )

-- CREATE INDEX doesn't change the rows of any table.
pub indexes : {schema : Schema} {text : List ℕ} {at : ℕ} {table : Table} {index : Index} → MakesIndex schema text at table index → (old new : State)
    → old.now.schema ≡ schema → (count : ℕ) → Executes text [] old new (Ok count)
    → (new.now.schema ≡ indexed schema table index) × KeepsRows schema.tables old.now.trees new.now.trees × IsDatabase new.now
indexes {schema = schema} {text = text} {at = at} {table = table} {index = index} makes old new has count h =
    let listed = makes.listed in
    let w = subst (λ t. Writes old new None (CreateIndex at) t [] count) makes.whole
    (runs_as text [] old new schema has (CreateIndex at) makes.is makes.plain count h) in
    let does = subst (λ s. Does old.step_limit (mode_of old) [] (record old.now { schema = s }) text None (CreateIndex at) (Ok (w.tally, new.now))) has
    w.changed in
    let made = went (rw listed at does) in
    let it = made.1 in
    let same : it.index ≡ index = same_value (sym it.defined ∙ makes.defined) in
    let now : new.now ≡ made.0 = ap (λ (p : Tally × Database). p.1) (same_value made.2) in (
      ap (λ (d : Database). d.schema) now ∙ it.is ∙ ap (indexed schema table) same,
      subst (λ (d : Database). KeepsRows schema.tables old.now.trees d.trees) (sym now) it.rows,
      w.sound,
    )

pub record Leaves (schema : Schema) (new : State) (count : ℕ) (one : Written) : Type 0 where
  pub schema_is : new.now.schema ≡ schema
  pub trees_are : new.now.trees ≡ one.trees
  pub counted : count ≡ length one.rows
  pub sound : IsDatabase new.now

abbrev pub task_of : Schema → Table → State → Row → Task
task_of schema table old params = record { limit = old.step_limit; keys = Enforced; schema = schema; table = table; params = params }

pub wrote_rows : {schema : Schema} {text : List ℕ} {command : Command} → Means schema text command → (at : ℕ) {table : Table}
    → slice_get schema.tables at ≡ Some table → (old new : State) (params : Row) (count : ℕ)
    → (Runs old new None command (statement_of text (understood schema text)) params count
    → Writes old new None command (statement_of text (understood schema text)) params count) → ((out : Result (Tally × Database) (Option Error))
    → Does old.step_limit (mode_of old) params (record old.now { schema = schema }) (statement_of text (understood schema text)) None command out
    → OnTable old.step_limit (mode_of old) params (record old.now { schema = schema }) at (λ task. OnRows task (mode_of old) None command old.now.trees) out)
    → old.now.schema ≡ schema → Executes text params old new (Ok count)
    → (one : Written) × Leaves schema new count one × WritesRows (task_of schema table old params) old.now.trees command (Ok one)
wrote_rows {schema = schema} {text = text} {command = command} means at listed old new params count writes on has h =
    let w = writes (runs_as text params old new schema has command means.is means.plain count h) in
    let statement = statement_of text (understood schema text) in
    let does = on (Ok (w.tally, new.now)) (subst (λ s. Does old.step_limit (mode_of old) params (record old.now { schema = s }) statement None command
    (Ok (w.tally, new.now))) has w.changed) in
    let done = went (rw listed at does) in
    let noted = same_value (went (went done.2).2).2 in
    let now = ap (λ (p : Tally × Database). p.1) noted in (
      done.0,
      record {
        schema_is = ap (λ (d : Database). d.schema) now;
        trees_are = ap (λ (d : Database). d.trees) now;
        counted = w.counted ∙ ap (λ (p : Tally × Database). unwrap_or p.0.rows 0) noted;
        sound = w.sound;
      },
      done.1,
    )

pub edited_alone : {schema : Schema} (old : State) {new : State} {count : ℕ} {one : Written} → Leaves schema new count one → (edit : Edit) (next : Trees)
    → works schema Enforced 0 edit.table.tree (taken_by old.now.trees edit) edit.news ≡ [] → ActionWrites schema Enforced old.now.trees edit (Ok next)
    → one.trees ≡ next → Wrote schema old.now new.now edit.table.tree × (new.now.trees edit.table.tree ≡ edited old.now.trees edit)
edited_alone {schema = schema} old left edit next still writes is =
    let applied = one_step schema Enforced old.now.trees next edit still writes in
    let whole = left.trees_are ∙ is in (
      record {
        schema = left.schema_is;
        others = subst (λ (trees : Trees). AllByRecursion (λ t. t.tree ≢ edit.table.tree → trees t.tree ≡ old.now.trees t.tree) schema.tables) (sym whole)
            applied.tables;
        sound = left.sound;
      },
      ap (λ (t : Trees). t edit.table.tree) whole ∙ applied.rows,
    )

-- INSERT adds a row at the next rowid, and doesn't change the other tables.
pub inserts : {schema : Schema} {text : List ℕ} {at width : ℕ} {terms : List Term} → Means schema text (Insert at (Values terms width)) → (table : Table)
    → slice_get schema.tables at ≡ Some table → table.is_counted ≡ false → table.stamps ≡ record { places = []; terms = []; formats = [] }
    → ((row : Row) → works schema Enforced 0 table.tree [] (row ∷ []) ≡ [])
    → (old new : State) → old.now.schema ≡ schema → (params values : Row) → value_rows params width (length terms / width) terms ≡ (Null ∷ values) ∷ []
    → cast_row table (Null ∷ values) ≡ Null ∷ values → (count : ℕ) → Executes text params old new (Ok count) → Wrote schema old.now new.now table.tree
    × (new.now.trees table.tree ≡ put_row (Int (next_rowid (old.now.trees table.tree)) ∷ values) (old.now.trees table.tree)) × (1 ≤ count)
inserts {schema = schema} {text = text} {at = at} {width = width} {terms = terms} means table listed uncounted unstamped still old new has params values gives
    casts count h =
    let db = old.now.trees in
    let it = wrote_rows means at listed old new params count (λ w. w) (λ out does. does) has h in
    let given = went it.2 in
    let stamp : stamped table params ≡ params = rw unstamped (append-nil params) in
    let sourced : given.0 ≡ (Null ∷ values) ∷ [] = given.1.1 ∙ ap (λ p. value_rows p width (length terms / width) terms) stamp ∙ gives in
    let c1 = went given.2 in
    let written = went c1.2 in
    let written_count = went written.2 in
    let top : Ok written_count.0 ≡ Ok written.0 = uncounts table.is_counted _ _ _ uncounted written_count.1 in
    let rowids = rowids_for table (count_of c1.0) in
    let numbered : length (edit_of db table [] rowids 0 given.0).news ≡ 1 =
    length-numbered rowids _ (map (λ (s : Row). cast_row table (drop 0 s)) given.0) ∙ length-map given.0 (λ (s : Row). cast_row table (drop 0 s))
    ∙ ap length sourced in
    let edit : Edit = record { table = table; gone = []; news = (Int (next_rowid (db table.tree)) ∷ values) ∷ [] } in
    let wrote : ActionWrites schema Enforced db (edit_of db table [] Chosen 0 ((Null ∷ values) ∷ [])) (Ok written.0) =
    subst₂ (λ b rows. ActionWrites schema Enforced db (edit_of db table [] (cond b (Above (count_of c1.0)) Chosen) 0 rows) (Ok written.0))
    uncounted sourced written.1 in
    let as_edit : Row → Edit = λ row. record { table = table; gone = []; news = with_rowid Chosen (db table.tree) row ∷ [] } in
    let put : ActionWrites schema Enforced db edit (Ok written.0) = subst (λ row. ActionWrites schema Enforced db (as_edit row) (Ok written.0)) casts wrote in
    let left = same_value written_count.2 in
    let whole = ap (λ (w : Written). w.trees) left ∙ same_value top in
    let done = edited_alone old it.1 edit written.0 (still (Int (next_rowid (db table.tree)) ∷ values)) put whole in
    (done.0, done.1, omega (arith, it.1.counted, ap (λ (w : Written). length w.rows) left, numbered))

abbrev pub Below : Row → Row → Type 0
Below r s = value_cmp (rowid r) (rowid s) ≡ Less

flipped : (v w : Value) → value_cmp v w ≡ Less → value_cmp w v ≡ Greater
flipped v w h = value_cmp_total.antisymm w v ∙ ap ordering_reverse h

put_first : (new : Row) (rows : List Row) → AllByRecursion (Below new) rows → put_row new rows ≡ new ∷ rows
put_first new [] h = refl
put_first new (s ∷ rows) h = rw (flipped (rowid new) (rowid s) h.0)

module _ {X : Type 0} (values : X → Row) (p : X → Bool) (change : X → X) (kept : (x : X) → p x ≡ false → change x ≡ x) where
  abbrev pub passes : ℤ × X → Bool
  passes q = p q.1

  abbrev pub next : ℤ × X → Row
  next q = Int q.0 ∷ values (change q.1)

  none_change : (ps : List (ℤ × X)) → filter passes ps ≡ [] → map (row_of values) ps ≡ map next ps
  none_change [] h = refl
  none_change (q ∷ ps) h = grind (arith, kept q.1, none_change ps)

  put_again : (ps : List (ℤ × X)) (one : ℤ × X) → IsTable (map (row_of values) ps) → filter passes ps ≡ one ∷ []
      → put_row (next one) (without_rowid one.0 (map (row_of values) ps)) ≡ map next ps
  put_again [] one table is = absurd cc
  put_again (q ∷ ps) one table is = go (p q.1) refl is (put_again ps one table.1)
    where
      rows : List Row
      rows = map (row_of values) ps

      go : (b : Bool) → p q.1 ≡ b → cond b (q ∷ filter passes ps) (filter passes ps) ≡ one ∷ []
          → (filter passes ps ≡ one ∷ [] → put_row (next one) (without_rowid one.0 rows) ≡ map next ps)
          → put_row (next one) (without_rowid one.0 (row_of values q ∷ rows)) ≡ next q ∷ map next ps
      go true passes is more =
          let same : q ≡ one = cc in
          let later = subst (λ (o : ℤ × X). AllByRecursion (Below (row_of values o)) rows) same table.0 in
          let left = filter_all (λ r. not (has_rowid one.0 r)) rows (all_weaker (Below (row_of values one)) _ (λ s below.
          ap (λ o. not (is_eq o)) (flipped (Int one.0) (rowid s) below)) rows later) in
          let taken : has_rowid one.0 (row_of values q) ≡ true =
          ap (λ (o : ℤ × X). is_eq (value_cmp (Int o.0) (Int one.0))) same ∙ ap is_eq (tied_itself value_cmp_total (Int one.0)) in
          rw (taken, left) (put_first (next one) rows later ∙ ap₂ ◌∷◌ (ap next (sym same)) (none_change ps cc))
      go false fails is more =
          let has = (has_filtered (λ (o : ℤ × X). p o.1) ps one (rw is (inl refl))).0 in
          let below : value_cmp (Int q.0) (Int one.0) ≡ Less = all_has _ ps one (all_from_map (Below (row_of values q)) (row_of values) ps table.0) has in
          rw (below, below) (ap₂ ◌∷◌ (ap (λ x. Int q.0 ∷ values x) (sym (kept q.1 fails))) (more is))

  rows_next : (ps : List (ℤ × X)) → AllZip (λ row x. IsRowOf (values x) row) (map next ps) (map change (map (λ q. q.1) ps))
  rows_next [] = tt
  rows_next (q ∷ ps) = ((q.0, refl), rows_next ps)

  holds_next : (ps : List (ℤ × X)) → IsTable (map (row_of values) ps) → Holds values (map next ps) (map change (map (λ q. q.1) ps))
  holds_next ps table = record { rising = ascending-map Below next ps (ascending_from_map Below (row_of values) ps table); same = rows_next ps }

  module _ (table : Table) (db : Database) (rows : List Row) (ps : List (ℤ × X)) (is : db.trees table.tree ≡ map (row_of values) ps)
      (rising : IsTable (map (row_of values) ps)) where
    abbrev Left : Type 0
    Left = Holds values (edited db.trees (edit_of db.trees table (ids_of rows) Given 1 rows)) (map change (map (λ q. q.1) ps))

    pub replaced : (one : ℤ × X) → filter passes ps ≡ one ∷ [] → rows ≡ (Int one.0 ∷ next one) ∷ [] → cast_row table (next one) ≡ next one → Left
    replaced one lone row casts = rw (row, casts, is, put_again ps one rising lone) (holds_next ps rising)

-- In the club's tables, no foreign key propagates an update to another table.
pub no_works : (tree : ℕ) (olds news : List Row) → works club_schema Enforced 0 tree olds news ≡ []
no_works tree olds news =
    elim (length news == 0) as (λ b. flat_map (λ child. filter_map (λ ref.
    work_by 0 tree (pairs olds news) child ref (deed_for Enforced b ref) (parent_key club_schema.tables ref)) child.references) club_schema.tables ≡ [])
    [ true ↦ refl | false ↦ refl ]

pub record Updates (old new : State) (table : Table) (query : Query) (params : Row) (count : ℕ) : Type 0 where
  pub rows : List Row
  pub answers : Answers (record { schema = club_schema; trees = old.now.trees }) (record { lets = []; body = query }) params rows
  pub wrote : Wrote club_schema old.now new.now table.tree
  pub left : new.now.trees table.tree ≡ edited old.now.trees (edit_of old.now.trees table (ids_of rows) Given 1 rows)
  pub counted : count ≡ length rows

pub update_leaves : (old : State) {new : State} {count : ℕ} {one : Written} {query : Query} (params : Row) {given : Row} (table : Table)
    → Leaves club_schema new count one → WritesUpdate (task_of club_schema table old params) (record { lets = []; body = query }) given old.now.trees (Ok one)
    → Updates old new table query given count
update_leaves old params table left h =
    let asked = went h in
    let written = went asked.2 in
    let edit = edit_of old.now.trees table (ids_of asked.0) Given 1 asked.0 in
    let is = same_value written.2 in
    let still = no_works table.tree (taken_by old.now.trees edit) edit.news in
    let done = edited_alone old left edit written.0 still written.1 (ap (λ (w : Written). w.trees) is) in
    record {
      rows = asked.0;
      answers = asked.1;
      wrote = done.0;
      left = done.1;
      counted = left.counted ∙ ap (λ (w : Written). length w.rows) is ∙ length-numbered Given _ (map (λ (s : Row). cast_row table (drop 1 s)) asked.0)
          ∙ length-map asked.0 (λ (s : Row). cast_row table (drop 1 s));
    }

pub updates : {text : List ℕ} {at : ℕ} {query : Query} → Means club_schema text (Update at (record { lets = []; body = query })) → (table : Table)
    → slice_get club_schema.tables at ≡ Some table → {old new : State} {params : Row} {count : ℕ} → old.now.schema ≡ club_schema
    → Executes text params old new (Ok count) → Updates old new table query params count
updates {at = at} means table listed {old = old} {new = new} {params = params} {count = count} has h =
    let it = wrote_rows means at listed old new params count (λ w. w) (λ out does. does) has h in update_leaves old params table it.1 it.2

-- The statement's tests pass for the elements that pass `p`. Such an element also passes `q`, and
-- at most one element passes `q`.
pub record FindsOne {X : Type 0} (values : X → Row) (p q : X → Bool) (xs : List X) (shown : Row → Row) (old new : State) (table : Table) (count : ℕ) : Type 0
  where
    pub query : Query
    pub params : Row
    pub put : Updates old new table query params count
    pub held : Holds values (old.now.trees table.tree) xs
    pub hit : Row → Bool
    pub hits : (id : ℤ) (x : X) → hit (Int id ∷ values x) ≡ p x
    pub answer : IsPermutation (map shown (filter hit (old.now.trees table.tree))) put.rows
    pub wide : Implies p q
    pub low : length (filter q xs) ≤ 1

pub finds_by : {X : Type 0} {values : X → Row} {p q : X → Bool} {rows : Rows} {xs : List X} {text : List ℕ} {table : Table} {query : Query} {params : Row}
    (at : ℕ) (shown : Trees → Row → Row) (hit : Trees → Row → Bool) → Means club_schema text (Update at (record { lets = []; body = query }))
    → slice_get club_schema.tables at ≡ Some table → ((db : Database) → HoldsRows db rows → Holds values (db.trees table.tree) xs)
    → ((db : Database) → HoldsRows db rows → (id : ℤ) (x : X) → hit db.trees (Int id ∷ values x) ≡ p x)
    → ((db : Database) (found : List Row) → Answers db (record { lets = []; body = query }) params found
    → IsPermutation (map (shown db.trees) (filter (hit db.trees) (db.trees table.tree))) found) → Implies p q → length (filter q xs) ≤ 1
    → WhenRan (text, params) rows (λ old new count. FindsOne values p q xs (shown old.now.trees) old new table count)
finds_by {table = table} {query = query} {params = params} at shown hit means listed held hits answer wide low old new count holds_rows ran =
    let put : Updates old new table query params count = updates means table listed holds_rows.schema ran in
    record {
      query = query;
      params = params;
      put = put;
      held = held old.now holds_rows;
      hit = hit old.now.trees;
      hits = hits old.now holds_rows;
      answer = answer (record { schema = club_schema; trees = old.now.trees }) put.rows put.answers;
      wide = wide;
      low = low;
    }

pub finds_row : {X : Type 0} {values : X → Row} {p q : X → Bool} {rows : Rows} {xs : List X} {text : List ℕ} {table : Table} (at : ℕ) (params : Row)
    (tests project : List Term) → Means club_schema text (Update at (record { lets = []; body = select (inner table.tree end) tests project }))
    → slice_get club_schema.tables at ≡ Some table → ((db : Database) → HoldsRows db rows → Holds values (db.trees table.tree) xs)
    → ((id : ℤ) (x : X) → test params tests project (Int id ∷ values x) ≡ p x) → Implies p q → length (filter q xs) ≤ 1
    → WhenRan (text, params) rows (λ old new count. FindsOne values p q xs (shows params tests project) old new table count)
finds_row {table = table} at params tests project means listed held tested =
    finds_by at (λ _. shows params tests project) (λ _. test params tests project) means listed held (λ _ _. tested) (answered params tests project table.tree)

module _ {X : Type 0} {values : X → Row} {p q : X → Bool} {xs : List X} {shown : Row → Row} {old new : State} {table : Table} {count : ℕ}
    (it : FindsOne values p q xs shown old new table count) where
  written : count ≡ length (filter p xs)
  written =
      it.put.counted ∙ length_permutation _ it.put.rows it.answer ∙ length-map (filter it.hit (old.now.trees table.tree)) shown
      ∙ as_many values it.hit p it.hits (old.now.trees table.tree) xs it.held.same

  pub one_found : 1 ≤ count → (x : X) × (find q xs ≡ Some x) × (p x ≡ true)
  one_found some =
      let one = find_some p xs (omega (arith, some, written)) in
      let is = wider_is p q it.wide xs it.low one.0 one.1 in
      (one.0, is.0, is.1)

  pub one_changed : {Next : Type 0} (x : X) → find q xs ≡ Some x → p x ≡ true → (change : X → X) → ((y : X) → q y ≡ false → change y ≡ y)
      → ((id : ℤ) → q x ≡ true → shown (Int id ∷ values x) ≡ Int id ∷ Int id ∷ values (change x))
      → ((id : ℤ) (y : X) → cast_row table (Int id ∷ values y) ≡ Int id ∷ values y)
      → (Wrote club_schema old.now new.now table.tree → Holds values (new.now.trees table.tree) (map change xs) → Next) → Next × (1 ≤ count)
  one_changed x is passing change kept sets casts on =
      let here = found q xs x is in
      let some = contains_counts p xs x here.0 passing in
      let same = agree p q it.wide xs (find_some p xs some).0 it.low (find_some p xs some).1 in
      let with_ids = paired values (old.now.trees table.tree) xs it.held.same in
      let ps = with_ids.pairs in
      let lone = lone_pair (filter (λ r. q r.1) ps) x (sym (ap (filter q) with_ids.xs_are ∙ filter-map q (λ (r : ℤ × X). r.1) ps)
      ∙ one_listed q xs it.low ∙ ap option_to_list is) in
      let hits = all_weaker (λ (r : ℤ × X). p r.1 ≡ q r.1) (λ r. it.hit (row_of values r) ≡ q r.1) (λ r e. it.hits r.0 r.1 ∙ e) ps
      (all_from_map (λ y. p y ≡ q y) (λ (r : ℤ × X). r.1) ps (subst (AllByRecursion (λ y. p y ≡ q y)) with_ids.xs_are same)) in
      let hit : filter it.hit (old.now.trees table.tree) ≡ row_of values (lone.0, x) ∷ [] =
      ap (filter it.hit) with_ids.rows_are ∙ filter-map it.hit (row_of values) ps ∙ ap (map (row_of values)) (filter_same _ (λ r. q r.1) ps hits ∙ lone.1) in
      let row = one_permutation (shown (Int lone.0 ∷ values x)) it.put.rows (subst (λ rs. IsPermutation (map shown rs) it.put.rows) hit it.answer)
      ∙ ap (λ r. r ∷ []) (sets lone.0 here.1) in
      let left = replaced values q change kept table (record { schema = club_schema; trees = old.now.trees }) it.put.rows ps with_ids.rows_are
      (subst IsTable with_ids.rows_are it.held.rising) (lone.0, x) lone.1 row (casts lone.0 (change x)) in
      (on it.put.wrote (subst₂ (λ rs ys. Holds values rs (map change ys)) (sym it.put.left) (sym with_ids.xs_are) left), omega (arith, some, written))
