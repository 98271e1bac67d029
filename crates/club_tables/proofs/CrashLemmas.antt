-- Lemmas about the states that a crash during a transaction may leave, and about queries, which
-- don't change the club that the connection represents.
use Rattle.std.proofs.Math.Seq.{take_all}
use Rattle.club_tables.proofs.Common.{◌≡◌, ℕ, List, refl, arith, Err, IsTrue, true, rules, Ghosts, Trees, Database, State, HasCleanDisk, Survives, IsRolledBack}
use Rattle.club_tables.proofs.Common.{Shown, FailsToQuery, IsNotRun, IsTooLate, ExecutesInside, Held, state, survives_then, Row, Error, StoreFault, Statement}
use Rattle.club_tables.proofs.Common.{BoundStatement, Ran, IsUntouched, MayCommit, IsAfterReadings, IsOpeningFault, ◌+◌, ◌<◌, ◌≤◌, [], ◌∷◌, ◌++◌, length, map}
use Rattle.club_tables.proofs.Common.{take, get_or, zero, suc, Ok, inl, inr, sym, subst, add-one, length-map, map-append, Executes, survives_begin}
use Rattle.club_tables.proofs.Common.{bound_statement, RanInTurn, transaction_start, fault_by, StopsAt, FailsInTurn, Rows, HoldsRows, FailsToCommit, take-suc}
use Rattle.club_tables.proofs.Common.{IsLeftOf, filter, IsPermutation, list_all, ℤ, Bool, false, Int, Schema, Reads, Select, Term, holds, eval_all, Query}
use Rattle.club_tables.proofs.Common.{inner, end, understood, reads_listing, IsPlain, command_of, reads_as, Club, club_schema, key_values, booking_values}
use Rattle.club_tables.proofs.Common.{HoldsClub, Holds, RepresentsBy, Represents, keys_tree, bookings_tree, select, Asked, IsKept, shown, Result, IfOk, IfErr}
use Rattle.club_tables.proofs.Common.{IfErr-weaker, IfOk-weaker, FailsAtReading, FailsToRead, IsReadFault, Reading, CanRead, reading_statement, ReadsClub}
use Rattle.club_tables.{proofs.SelectLemmas.selected, specs.Answers.Answers}

pub was_clean : (old new : State) (P : Trees → Type 0) → Survives old new P → HasCleanDisk new → HasCleanDisk old
was_clean old new P survives clean = omega (arith, survives.clean)

pub survives_as : (old new : State) (P Q : Trees → Type 0) → Survives old new P → (HasCleanDisk new → (trees : Trees) → P trees → Q trees) → Survives old new Q
survives_as old new P Q s leaves = search rules

pub kept_when_idle : (s : State) → IsUntouched s s
kept_when_idle s rest clean is_open = (is_open, rest is_open, refl)

pub untouched_then : (a b c : State) → (HasCleanDisk c → HasCleanDisk b) → IsUntouched a b → IsUntouched b c → IsUntouched a c
untouched_then a b c earlier first next rest clean is_open = search rules

module _ {S : Type 0} (g : Ghosts S) (fewest : ℕ) where
  pub may_commit : (all : List BoundStatement) (AreStatements : List BoundStatement → Type 0) → AreStatements all → (old new : Held S)
      → Survives (state g old) (state g new) (λ trees. (db : Database) × Ran g fewest all old db × (trees ≡ db.trees))
      → Survives (state g old) (state g new) (MayCommit g fewest AreStatements old)
  may_commit all AreStatements are old new survives =
      survives_as (state g old) (state g new) (λ trees. (db : Database) × Ran g fewest all old db × (trees ≡ db.trees))
      (MayCommit g fewest AreStatements old) survives (λ clean trees left.
      let same = kept_when_idle (state g old) in
      let earlier = was_clean (state g old) (state g new) _ survives clean in
      search rules)

  pub commits_nothing : (AreStatements : List BoundStatement → Type 0) (old new : Held S) → Survives (state g old) (state g new) (λ _. ⊥)
      → Survives (state g old) (state g new) (MayCommit g fewest AreStatements old)
  commits_nothing AreStatements old new survives = search rules

  pub commits_after : (AreStatements : List BoundStatement → Type 0) (a b c : Held S) → IsUntouched (state g a) (state g b)
      → Survives (state g a) (state g b) (λ _. ⊥) → Survives (state g b) (state g c) (MayCommit g fewest AreStatements b)
      → Survives (state g a) (state g c) (MayCommit g fewest AreStatements a)
  commits_after AreStatements a b c untouched first next =
      let P = MayCommit g fewest AreStatements a in
      survives_then (state g a) (state g b) (state g c) (λ _. ⊥) (MayCommit g fewest AreStatements b) P (λ _ db none. absurd none) (λ clean db may.
      let earlier : HasCleanDisk (state g b) = omega (arith, next.clean) in
      let same = untouched_then (state g a) (state g b) (state g may.from) (λ _. earlier) untouched may.same in
      let p : P db = search rules in
      p) first next

module _ {S : Type 0} (g : Ghosts S) where
  pub after_one : (old new : Held S) → HasCleanDisk (state g new) → IsUntouched (state g old) (state g new) → Survives (state g old) (state g new) (λ _. ⊥)
      → IsAfterReadings g old new
  after_one old new clean same survives = record { same = same; clean = clean; fault_count = survives.counts }

  pub opened_after : (a b c : Held S) (fault : StoreFault) → IsAfterReadings g a b → IsOpeningFault g b c fault → IsOpeningFault g a c fault
  opened_after a b c fault first it = record { from = it.from; after = search rules; failure = it.failure }

abbrev pub Keeps : State → State → Type 0
Keeps old new = IsTrue new.is_open → IsTrue old.is_open × (new.committed ≡ old.committed)

module _ (sql : List ℕ) (params : Row) (old new : State) where
  pub shown_keeps : (rows : List Row) → old.in_transaction ≡ true → Shown sql params old new rows → Keeps old new
  unfolding Shown
  shown_keeps rows inside h = grind arith

  pub not_run_keeps : (e : Error) → IsNotRun old new sql params e → Keeps old new
  unfolding IsNotRun
  not_run_keeps e h = grind arith

  pub fails_keeps : (e : Error) → FailsToQuery sql params old new e → Keeps old new
  unfolding FailsToQuery
  fails_keeps e h = grind (arith, not_run_keeps)

  pub execute_keeps : (e : Error) → ExecutesInside 0 sql params old new (Err e) → Keeps old new
  execute_keeps e h = grind arith

  pub too_late_keeps : (e : Error) → IsTooLate sql params old new e → Keeps old new
  too_late_keeps e h = search rules

pub then_rolled : (old mid new : State) → Keeps old mid → IsRolledBack mid new → IsTrue new.is_open → IsTrue old.is_open × (new.now ≡ old.committed)
    × (new.committed ≡ old.committed)
then_rolled old mid new kept back is_open = search rules

pub commit_keeps : (old mid new : State) (e : Error) → Keeps old mid → IsTrue mid.in_transaction → FailsToCommit mid new e → IsTrue new.is_open
    → IsTrue old.is_open × (new.now ≡ old.committed) × (new.committed ≡ old.committed)
commit_keeps old mid new e kept inside h is_open = grind arith

module _ {S : Type 0} (g : Ghosts S) (fewest : ℕ) where
  pub turn_more : (all : List BoundStatement) (statement : BoundStatement) (a b c : Held S) (count : ℕ) → RanInTurn g fewest all a b
      → Executes statement.0 statement.1 (state g b) (state g c) (Ok count) → fewest ≤ count → IsTrue (state g b).is_open
      → RanInTurn g fewest (all ++ statement ∷ []) a c
  turn_more [] statement a b c count before one enough opened = (
    c,
    count,
    subst (λ h. Executes statement.0 statement.1 (state g h) (state g c) (Ok count)) before one,
    refl,
    enough,
    subst (λ h. IsTrue (state g h).is_open) before opened,
  )
  turn_more (first ∷ all) statement a b c count before one enough opened =
      (before.0, before.1, before.2, turn_more all statement before.0 b c count before.3 one enough opened, before.4, before.5)

  pub turn_at : (statements : List Statement) (at : ℕ) (d : Statement) (a b c : Held S) (count : ℕ) → at < length statements
      → RanInTurn g fewest (map bound_statement (take at statements)) a b
      → Executes (bound_statement (get_or statements at d)).0 (bound_statement (get_or statements at d)).1 (state g b) (state g c) (Ok count)
      → fewest ≤ count → IsTrue (state g b).is_open → RanInTurn g fewest (map bound_statement (take (at + 1) statements)) a c
  turn_at statements at d a b c count within before one enough opened =
      let front = map bound_statement (take at statements) in
      let more : map bound_statement (take (at + 1) statements) ≡ front ++ bound_statement (get_or statements at d) ∷ [] =
      rw (add-one, take-suc statements at d within, map-append bound_statement (take at statements) (get_or statements at d ∷ [])) in
      subst (λ all. RanInTurn g fewest all a c) (sym more) (turn_more front (bound_statement (get_or statements at d)) a b c count before one enough opened)

  pub fails_at : (statements : List Statement) (at : ℕ) (d : Statement) (a b c : Held S) (fault : StoreFault) → at < length statements
      → RanInTurn g fewest (map bound_statement (take at statements)) a b → StopsAt g fewest (bound_statement (get_or statements at d)) b c fault
      → FailsInTurn g fewest (map bound_statement statements) a c fault
  fails_at [] at d a b c fault within before one = absurd (omega arith)
  fails_at (s ∷ statements) zero d a b c fault within before one = inl (subst (λ h. StopsAt g fewest (bound_statement s) h c fault) before one)
  fails_at (s ∷ statements) (suc at) d a b c fault within before one =
      inr (before.0, before.1, before.2, fails_at statements at d before.0 b c fault (omega arith) before.3 one, before.4, before.5)

  pub fails_last : (all : List BoundStatement) (a b c : Held S) (error : Error) (fault : StoreFault) → RanInTurn g fewest all a b
      → FailsToCommit (state g b) (state g c) error → fault ≡ fault_by error → FailsInTurn g fewest all a c fault
  fails_last [] a b c error fault before last is = (error, subst (λ h. FailsToCommit (state g h) (state g c) error) before last, is)
  fails_last (statement ∷ all) a b c error fault before last is =
      inr (before.0, before.1, before.2, fails_last all before.0 b c error fault before.3 last is, before.4, before.5)

-- The first `at` of these statements ran in a transaction that started from `old`.
pub record RanUpTo {S : Type 0} (g : Ghosts S) (fewest : ℕ) (statements : List Statement) (at : ℕ) (old mid : Held S) : Type 0 where
  pub survives : Survives (state g (transaction_start old)) (state g mid) (λ _. ⊥)
  pub ran : HasCleanDisk (state g mid) → RanInTurn g fewest (map bound_statement (take at statements)) (transaction_start old) mid
  pub inside : HasCleanDisk (state g mid) → IsTrue mid.in_transaction
  pub keeps : HasCleanDisk (state g mid) → Keeps (state g (transaction_start old)) (state g mid)
  pub opened : HasCleanDisk (state g mid) → 0 < at → IsTrue (state g mid).is_open

module _ {S : Type 0} {g : Ghosts S} {fewest : ℕ} {statements : List Statement} {at : ℕ} {old mid : Held S} (it : RanUpTo g fewest statements at old mid) where
  pub all_ran : length statements ≤ at → HasCleanDisk (state g mid) → RanInTurn g fewest (map bound_statement statements) (transaction_start old) mid
  all_ran past clean = subst (λ all. RanInTurn g fewest (map bound_statement all) (transaction_start old) mid) (take_all at statements past) (it.ran clean)

  -- Whether or not the commit succeeds, a crash leaves the effects of all statements, or a state
  -- that a crash before the transaction could leave.
  pub commit_survives : (new : Held S) → length statements ≤ at → Survives (state g mid) (state g new) (λ trees. trees ≡ (state g mid).now.trees)
      → Survives (state g old) (state g new) (λ trees. (db : Database) × Ran g fewest (map bound_statement statements) old db × (trees ≡ db.trees))
  commit_survives new past commit =
      let all = map bound_statement statements in
      let P = λ (trees : Trees). (db : Database) × Ran g fewest all old db × (trees ≡ db.trees) in
      let made = λ (clean : HasCleanDisk (state g new)) (trees : Trees) (is : trees ≡ (state g mid).now.trees).
      let earlier : HasCleanDisk (state g mid) = omega (arith, commit.clean) in
      let was = λ (some : 0 < length all). let more : 0 < length statements = subst (λ n. 0 < n) (length-map statements bound_statement) some in
      (it.keeps earlier (it.opened earlier (omega arith))).0 in
      let p : P trees = ((state g mid).now, record { last = mid; was_open = was; turns = all_ran past earlier; is = refl }, is) in p in
      survives_then (state g old) (state g mid) (state g new) _ _ P (λ _ db none. absurd none) made (survives_begin g old (state g mid) _ it.survives) commit

module _ {S : Type 0} (g : Ghosts S) where
  abbrev Moves : BoundStatement → Rows → Rows → Type 0
  Moves statement rows next =
      (old new : Held S) (count : ℕ) → HoldsRows (state g old).now rows → Executes statement.0 statement.1 (state g old) (state g new) (Ok count)
      → HoldsRows (state g new).now next × (1 ≤ count)

  abbrev pub GoThrough : List BoundStatement → Rows → Rows → Type 0
  GoThrough [] rows last = rows ≡ last
  GoThrough (statement ∷ more) rows last = (next : Rows) × Moves statement rows next × GoThrough more next last

  pub left_by : (all : List BoundStatement) (rows last : Rows) → GoThrough all rows last → (old new : Held S) → HoldsRows (state g old).now rows
      → RanInTurn g 1 all old new → HoldsRows (state g new).now last
  left_by [] rows last same old new holds ran = subst (HoldsRows (state g new).now) same (subst (λ h. HoldsRows (state g h).now rows) (sym ran) holds)
  left_by (statement ∷ more) rows last through old new holds ran =
      left_by more through.0 last through.2 ran.0 new (through.1 old ran.0 ran.1 holds ran.2).0 ran.3

  pub less_in_turn : (all : List BoundStatement) (old new : Held S) (fault : StoreFault)
      → (IsTrue (state g old).is_open → (rows : Rows) × (last : Rows) × HoldsRows (state g old).now rows × GoThrough all rows last)
      → FailsInTurn g 1 all old new fault → FailsInTurn g 0 all old new fault
  less_in_turn [] old new fault through failed = failed
  less_in_turn (statement ∷ more) old new fault through (inl (inl refused)) = inl (inl refused)
  less_in_turn (statement ∷ more) old new fault through (inl (inr short)) = search rules
  less_in_turn (statement ∷ more) old new fault through (inr ran) =
      let it = through ran.5 in
      let next = it.3.1 old ran.0 ran.1 it.2 ran.2 in
      inr (ran.0, ran.1, ran.2, less_in_turn more ran.0 new fault (λ opened. (it.3.0, it.1, next.0, it.3.2)) ran.3, omega arith, ran.5)

pub represents_by : (IsHeld : Database → Club → Type 0) (old new : State) → IsKept old new → (HasCleanDisk new → HasCleanDisk old) → (club : Club)
    (others next : List Club) → RepresentsBy IsHeld old club others
    → (HasCleanDisk new → (trees : Trees) → new.may_leave trees → IsLeftOf trees (club ∷ next)) → RepresentsBy IsHeld new club next
represents_by IsHeld old new kept earlier club others next before left = search rules

pub represents_on : (IsHeld : Database → Club → Type 0) (old new : State) → IsKept old new → Survives old new (λ _. ⊥) → (club : Club) (others : List Club)
    → RepresentsBy IsHeld old club others → RepresentsBy IsHeld new club others
represents_on IsHeld old new kept quiet club others before = search rules

pub asked_open : {S : Type 0} (g : Ghosts S) (sql : List ℕ) (params : Row) (old : Held S) (rows : List Row) → Asked g sql params old rows
    → IsTrue (state g old).is_open
unfolding Shown
asked_open g sql params old rows asked = search rules

pub asked_tables : {S : Type 0} {g : Ghosts S} {sql : List ℕ} {params : Row} {old : Held S} {rows : List Row} → Asked g sql params old rows
    → HasCleanDisk (state g old) → (club : Club) (others : List Club) → Represents (state g old) club others → HoldsClub (state g old).now club
asked_tables {g = g} {sql = sql} {params = params} {old = old} {rows = rows} asked clean club others represents =
    let is_open = asked_open g sql params old rows asked in
    subst (λ (db : Database). HoldsClub db club) (sym (represents.idle clean is_open)) (represents.held clean is_open)

pub record Asks (schema : Schema) (text : List ℕ) (query : Query) (names : List (List ℕ)) : Type 0 where
  pub is : command_of (understood schema text) ≡ Select (record { lets = []; body = query }) names
  pub plain : IsPlain (understood schema text)
  pub unlisted : reads_listing schema text ≡ false

pub asked_reads : {S : Type 0} {g : Ghosts S} {sql : List ℕ} {params : Row} {old : Held S} {rows : List Row} {schema : Schema} {query : Query}
    {names : List (List ℕ)} → Asked g sql params old rows → Asks schema sql query names → (state g old).now.schema ≡ schema
    → Reads (Select (record { lets = []; body = query }) names) (state g old).now params rows
asked_reads {g = g} {sql = sql} {params = params} {old = old} {rows = rows} {schema = schema} asked asks over =
    reads_as sql params (state g (transaction_start old)) (state g asked.mid) schema over _ asks.is asks.plain asks.unlisted rows asked.shown

abbrev pub Shows : {S : Type 0} → Ghosts S → Held S → BoundStatement → (Club → List Row → Type 0) → Type 0
Shows g old statement IsShown =
    (rows : List Row) → HasCleanDisk (state g old) → Asked g statement.0 statement.1 old rows → (club : Club) (others : List Club)
    → Represents (state g old) club others → IsShown club rows

-- The query returns the elements that pass a test.
pub shown_by : {S : Type 0} {g : Ghosts S} {old : Held S} {sql : List ℕ} {params : Row} {tree : ℕ} {tests project : List Term} {names : List (List ℕ)}
    {IsShown : Club → List Row → Type 0} → Asks club_schema sql (select (inner tree end) tests project) names → {X : Type 0} (values : X → Row) (p : X → Bool)
    (show : X → Row) → ((id : ℤ) (x : X) → list_all (holds (params ∷ (Int id ∷ values x) ∷ [])) tests ≡ p x)
    → ((id : ℤ) (x : X) → eval_all project (params ∷ (Int id ∷ values x) ∷ []) ≡ show x)
    → ((club : Club) (tables : HoldsClub (state g old).now club) → (xs : List X) × Holds values ((state g old).now.trees tree) xs
    × ((rows : List Row) → IsPermutation (map show (filter p xs)) rows → IsShown club rows)) → Shows g old (sql, params) IsShown
shown_by {g = g} {old = old} {params = params} {tree = tree} {tests = tests} {project = project} {names = names} asks values p show tested shown each rows
    clean asked club others represents =
    let tables = asked_tables asked clean club others represents in
    let it = each club tables in
    it.2 rows (selected values params tests project p show tested shown tree names (state g old).now it.0 rows it.1
    (asked_reads asked asks tables.holds_rows.schema))

pub survives_none : (a b c : State) → Survives a b (λ _. ⊥) → Survives b c (λ _. ⊥) → Survives a c (λ _. ⊥)
survives_none a b c p q = survives_then a b c (λ _. ⊥) (λ _. ⊥) (λ _. ⊥) (λ _ db none. none) (λ _ db none. none) p q

pub keys_held : (db : Database) (club : Club) → (tables : HoldsClub db club) → Holds key_values (db.trees keys_tree) club.keys
keys_held db club tables = subst (Holds key_values (db.trees keys_tree)) tables.storage.keys tables.holds_rows.held.keys

pub bookings_held : (db : Database) (club : Club) → (tables : HoldsClub db club) → Holds booking_values (db.trees bookings_tree) club.bookings
bookings_held db club tables = subst (Holds booking_values (db.trees bookings_tree)) tables.storage.bookings tables.holds_rows.held.bookings

pub at_once : {S : Type 0} (g : Ghosts S) (held : Held S) → HasCleanDisk (state g held) → IsAfterReadings g held held
at_once g held clean = record { same = kept_when_idle (state g held); clean = clean; fault_count = omega arith }

pub fewer_read : {S : Type 0} (g : Ghosts S) (statement : BoundStatement) (P Q : List Row → Type 0) (old new : Held S) (fault : StoreFault)
    → ((rows : List Row) → Q rows → P rows) → FailsToRead g statement P old new fault → FailsToRead g statement Q old new fault
fewer_read g statement P Q old new fault through (inl failed) = inl failed
fewer_read g statement P Q old new fault through (inr it) =
    inr (record { rows = it.rows; query = it.query; unread = λ q. it.unread (through it.rows q); fault_is = it.fault_is })

pub read_by : {S A : Type 0} (g : Ghosts S) (reading : Reading) (IsAnswer : List Row → A → Type 0) (old new : Held S) (result : Result A StoreFault)
    {IsShown : Club → List Row → Type 0} {IsReturned : Club → A → Type 0} → IsKept (state g old) (state g new) → Survives (state g old) (state g new) (λ _. ⊥)
    → (HasCleanDisk (state g new) → IfOk result (λ answer. (rows : List Row)
    × Asked g (reading_statement reading).0 (reading_statement reading).1 old rows × IsAnswer rows answer))
    → (HasCleanDisk (state g new) → IfErr result (FailsAtReading g reading old new)) → Shows g old (reading_statement reading) IsShown
    → ((club : Club) (rows : List Row) (answer : A) → IsShown club rows → IsAnswer rows answer → IsReturned club answer) → ReadsClub g old new result IsReturned
read_by {A = A} g reading IsAnswer old new result {IsReturned = IsReturned} kept quiet gives fails shown returned =
    let earlier = λ (clean : HasCleanDisk (state g new)). let e : HasCleanDisk (state g old) = omega (arith, quiet.clean) in e in
    let Given = λ (answer : A). (rows : List Row) × Asked g (reading_statement reading).0 (reading_statement reading).1 old rows × IsAnswer rows answer in
    record {
      returns = λ clean club others represents. IfOk-weaker result Given (IsReturned club) (λ answer given.
          returned club given.0 answer (shown given.0 (earlier clean) given.1 club others represents) given.2) (gives clean);
      kept = λ clean. represents_on HoldsClub (state g old) (state g new) kept quiet;
      no_change = λ rest. kept;
      survives = quiet;
      fault = λ clean. IfErr-weaker result (FailsAtReading g reading old new) (IsReadFault g old new) (λ fault failed.
          record { from = old; after = at_once g old (earlier clean); reading = reading; failure = failed }) (fails clean);
    }

pub read_answer : {S A : Type 0} {g : Ghosts S} (reading : Reading) {IsAnswer : List Row → A → Type 0} {old new : Held S} {result : Result A StoreFault}
    {IsShown : Club → List Row → Type 0} {IsReturned : Club → A → Type 0} → Answers g (reading_statement reading) IsAnswer old new result
    → IsKept (state g old) (state g new) → Survives (state g old) (state g new) (λ _. ⊥)
    → ((rows : List Row) → CanRead reading rows → (answer : A) × IsAnswer rows answer) → Shows g old (reading_statement reading) IsShown
    → ((club : Club) (rows : List Row) (answer : A) → IsShown club rows → IsAnswer rows answer → IsReturned club answer) → ReadsClub g old new result IsReturned
read_answer {A = A} {g = g} reading {IsAnswer = IsAnswer} {old = old} {new = new} {result = result} answers kept quiet can shown returned =
    let Unanswered = λ (rows : List Row). (answer : A) × IsAnswer rows answer in
    read_by g reading IsAnswer old new result kept quiet answers.success (λ clean.
    IfErr-weaker result (FailsToRead g (reading_statement reading) Unanswered old new) (FailsAtReading g reading old new) (λ fault failed.
    inl (fewer_read g (reading_statement reading) Unanswered (CanRead reading) old new fault can failed)) (answers.failure clean)) shown returned
