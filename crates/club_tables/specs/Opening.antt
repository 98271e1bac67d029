-- This file defines how the tables of a database are opened, migrated or created.
use Rattle.std.specs.Prelude.{◌≡◌, ◌≢◌, ◌⊎◌, ℕ, List, [], ◌∷◌, ◌++◌, map, All, Ok, Result, OnOk, OnErr, IfErr, IsTrue, false, codes}
use Rattle.club_core.specs.{Club.Club, Store.KeepsClub, declared.store.StoreFault.{StoreFault, TheVariants.{Memory, Storage}}}
use Rattle.club_tables.specs.{Answers.IsAfterReadings, Columns.{HasValues, version_values}, Tables.{Represents, RepresentsVersion1, RepresentsVersion2}}
use Rattle.club_tables.specs.{Tables.IsFound, Transaction.{FailsToAsk, FailsToPrepare, FailsToRun, BoundStatement, Asked, Ran, IsIdle, IsKept, IsUnderstood}}
use Rattle.club_tables.specs.{Transaction.MayCommit, declared.texts.TheConstants.{VERSION, KEY, MEMBER, FACILITY, SLOT, BOOKING, OLDER_ROOT, MAKE_DESK}}
use Rattle.club_tables.specs.declared.texts.TheConstants.{MAKE_MEMBERS, MAKE_FACILITIES, MAKE_KEYS, MAKE_SLOTS, MAKE_BOOKINGS, MAKE_KEYS_BY_MEMBER}
use Rattle.club_tables.specs.declared.texts.TheConstants.{MAKE_OLD_ROOTS, ADD_VERSION, SET_VERSION, MAKE_BOOKINGS_BY_KEY, DROP_BOOKINGS_BY_KEY}
use Rattle.sqlite.specs.{Change.is_used, Effect.{Database, Reads}, Held.{Held, state}, Listing.understood, Order.Row, Schema.Schema, State.State}
use Rattle.sqlite.specs.{State.{HasCleanDisk, Survives}, Store.Ghosts}
use Rattle.sqlite_resolve.specs.declared.compiled.Compiled.{Compiled}

abbrev pub version_text : List ℕ
version_text = VERSION.now

-- The statements that read a row by its primary key, for tables of version 1.
abbrev pub first_texts : List (List ℕ)
first_texts = KEY.now ∷ MEMBER.now ∷ FACILITY.now ∷ SLOT.now ∷ BOOKING.now ∷ []

abbrev pub texts_by_key : List (List ℕ)
texts_by_key = KEY.now ∷ MEMBER.now ∷ FACILITY.now ∷ SLOT.now ∷ BOOKING.now ∷ OLDER_ROOT.now ∷ []

-- SQLite accepts this text only if the index of the bookings exists. The text is prepared when the
-- tables are opened, but it is never run.
abbrev pub index_text : List ℕ
index_text = DROP_BOOKINGS_BY_KEY.now

-- The statements that read a row by its primary key, and the text that tests for the index of the
-- bookings.
abbrev pub indexed_texts : List (List ℕ)
indexed_texts = texts_by_key ++ index_text ∷ []

-- Statements with these texts and without parameters.
abbrev pub batch : List (List ℕ) → List BoundStatement
batch texts = map (λ (text : List ℕ). (text, [])) texts

-- The statements that create the tables of an empty club.
abbrev pub table_batch : List BoundStatement
table_batch =
    batch (MAKE_DESK.now ∷ MAKE_MEMBERS.now ∷ MAKE_FACILITIES.now ∷ MAKE_KEYS.now ∷ MAKE_SLOTS.now ∷ MAKE_BOOKINGS.now
    ∷ MAKE_KEYS_BY_MEMBER.now ∷ MAKE_OLD_ROOTS.now ∷ MAKE_BOOKINGS_BY_KEY.now ∷ ADD_VERSION.now ∷ [])

abbrev pub migration : List BoundStatement
migration = batch (MAKE_OLD_ROOTS.now ∷ MAKE_BOOKINGS_BY_KEY.now ∷ SET_VERSION.now ∷ [])

abbrev pub index_batch : List BoundStatement
index_batch = batch (MAKE_BOOKINGS_BY_KEY.now ∷ [])

-- The statements create the tables, migrate tables of version 1, or create the index of the
-- bookings.
abbrev pub IsOpeningBatch : List BoundStatement → Type 0
IsOpeningBatch statements = (statements ≡ table_batch) ⊎ ((statements ≡ migration) ⊎ (statements ≡ index_batch))

-- The schema has no object called `desk`, in upper or lower case. So SQLite refuses the query for
-- the version.
pub record HasNoDesk (schema : Schema) : Type 0 where
  pub no_desk_name : is_used schema (codes "desk") ≡ false
  pub no_version_query : ¬ IsUnderstood schema VERSION.now

-- The SQL text is a query, and the query returns these rows for this database.
abbrev pub YieldsRows : List ℕ → Database → List Row → Type 0
YieldsRows sql db rows = (c : Compiled) × (understood db.schema sql ≡ Ok c) × Reads c.command db [] rows

-- The query for the version returned these rows. If the database represents a club, the rows
-- contain the version of the club's tables.
pub record YieldsVersion {S : Type 0} (g : Ghosts S) (old new : Held S) (rows : List Row) : Type 0 where
  pub query : Asked g version_text [] old rows
  pub version_rows : YieldsRows version_text (state g old).now rows
  pub version_of_club : (club : Club) (others : List Club) → IsFound (state g old) club others
      → (RepresentsVersion2 (state g new) club others × (rows ≡ version_values 2 ∷ []))
      ⊎ (RepresentsVersion1 (state g new) club others × (rows ≡ version_values 1 ∷ []))

-- SQLite accepts each text as a statement over the committed tables.
abbrev pub Understands : {S : Type 0} → Ghosts S → List (List ℕ) → Held S → Type 0
Understands g texts held = All (IsUnderstood (state g held).committed.schema) texts

-- The database has tables of this version. One row contains the version, and SQLite accepts each of
-- these texts.
pub record IsReady (version : ℕ) (texts : List (List ℕ)) (db : Database) : Type 0 where
  pub version_row : (row : Row) × YieldsRows VERSION.now db (row ∷ []) × HasValues row (version_values version)
  pub by_key : All (IsUnderstood db.schema) texts

-- The database had tables of this version, and is unchanged.
pub record FoundReady (version : ℕ) (texts : List (List ℕ)) (old new : State) : Type 0 where
  pub ready : IsReady version texts new.committed
  pub same : new.committed ≡ old.committed

-- The database had tables of this version, and all of these statements ran.
pub record Upgrade (version : ℕ) (texts : List (List ℕ)) (statements : List BoundStatement) {S : Type 0} (g : Ghosts S) (old new : Held S) : Type 0 where
  pub from : Held S
  pub found : FoundReady version texts (state g old) (state g from)
  pub same : (state g from).now ≡ (state g old).committed
  pub ran : Ran g 0 statements from (state g new).committed

-- SQLite accepted each of `texts` as a statement over the tables. Then all of `statements` ran.
abbrev pub HasRunOver : List (List ℕ) → List BoundStatement → {S : Type 0} → Ghosts S → Held S → Held S → Type 0
HasRunOver texts statements {S} g old new =
    (from : Held S) × IsTrue (state g old).is_open × Understands g texts old
    × ((state g from).committed ≡ (state g old).committed)
    × ((state g from).now ≡ (state g old).committed) × Ran g 0 statements from (state g new).committed

-- The database had tables of version 1, and all statements of the migration ran.
abbrev pub Migrated : {S : Type 0} → Ghosts S → Held S → Held S → Type 0
Migrated g old new = Upgrade 1 first_texts migration g old new

abbrev pub HasMigrated : {S : Type 0} → Ghosts S → Held S → Held S → Type 0
HasMigrated g old new = HasRunOver first_texts migration g old new

-- The database had tables of version 2, and the statement that creates the index of the bookings
-- ran.
abbrev pub AddsIndex : {S : Type 0} → Ghosts S → Held S → Held S → Type 0
AddsIndex g old new = Upgrade 2 texts_by_key index_batch g old new

-- Either the index of the bookings existed and nothing was changed, or the statement that creates
-- the index ran.
abbrev pub HasOrGetsIndex : {S : Type 0} → Ghosts S → Held S → Held S → Type 0
HasOrGetsIndex {S} g old new =
    (IsUnderstood (state g old).now.schema index_text × IsKept (state g old) (state g new))
    ⊎ ((from : Held S) × HasCleanDisk (state g from) × IsKept (state g old) (state g from) × Ran g 0 index_batch from (state g new).committed)

-- The tables have the index of the bookings for one of two reasons:
-- - SQLite accepted all texts, including the text that tests for the index. Nothing was changed.
-- - SQLite accepted the statements that read a row by its primary key. Then the index was created.
abbrev pub EnsuresIndex : {S : Type 0} → Ghosts S → Held S → Held S → Type 0
EnsuresIndex g old new =
    (IsKept (state g old) (state g new) × Understands g indexed_texts new) ⊎ HasRunOver texts_by_key index_batch g old new

-- The database had no table with a version, and all statements that create the tables ran.
pub record MadeAll {S : Type 0} (g : Ghosts S) (old new : Held S) : Type 0 where
  pub from : Held S
  pub same : (state g from).now ≡ (state g old).committed
  pub no_desk_table : HasNoDesk (state g old).committed.schema
  pub ran : Ran g 0 table_batch from (state g new).committed

-- Three kinds of databases can be opened:
-- - A database with tables of version 2 gets the index of the bookings, if the index is missing.
-- - A database with tables of version 1 is migrated to version 2.
-- - A database without the table `desk` gets all tables.
abbrev pub AcceptsTables : {S : Type 0} → Ghosts S → Held S → Held S → Type 0
AcceptsTables g old new =
    FoundReady 2 indexed_texts (state g old) (state g new) ⊎ (AddsIndex g old new ⊎ (Migrated g old new ⊎ MadeAll g old new))

-- At least one of the texts has the property.
abbrev pub OneOf : (List ℕ → Type 0) → List (List ℕ) → Type 0
OneOf P [] = ⊥
OneOf P (text ∷ texts) = P text ⊎ OneOf P texts

-- The database refused to prepare one of the texts, perhaps after reads.
pub record FailsToPrepareOne {S : Type 0} (g : Ghosts S) (texts : List (List ℕ)) (old new : Held S) (fault : StoreFault) : Type 0 where
  pub from : Held S
  pub after : IsAfterReadings g old from
  pub failure : OneOf (λ text. FailsToPrepare g text from new fault) texts

-- The tables can't be opened in these cases:
-- - Memory runs out while the version is read, or while the text that tests for the index is
--   prepared.
-- - The database refuses the statements that create the tables, migrate the tables, or create the
--   index.
-- - The database refuses one of the statements that read a row by its primary key.
-- - The version is neither 1 nor 2.
abbrev pub FailsToTake : {S : Type 0} → Ghosts S → Held S → Held S → StoreFault → Type 0
FailsToTake g old new fault =
    ((fault ≡ Memory) × (FailsToAsk g (version_text, []) old new fault ⊎ FailsToPrepare g index_text old new fault))
    ⊎ (((statements : List BoundStatement) × IsOpeningBatch statements × FailsToRun g 0 statements old new fault)
    ⊎ (OneOf (λ text. FailsToPrepare g text old new fault) texts_by_key
    ⊎ ((fault ≡ Storage) × (rows : List Row) × Asked g version_text [] old rows × (rows ≢ version_values 2 ∷ []) × (rows ≢ version_values 1 ∷ []))))

-- Opening the tables failed with this fault, perhaps after reads.
pub record IsOpeningFault {S : Type 0} (g : Ghosts S) (old new : Held S) (fault : StoreFault) : Type 0 where
  pub from : Held S
  pub after : IsAfterReadings g old from
  pub failure : FailsToTake g from new fault

-- If no write was pending before and the connection is open now, the relation `Done` holds.
abbrev pub WhenIdle : {S : Type 0} → Ghosts S → (Held S → Held S → Type 0) → Held S → Held S → Type 0
WhenIdle g Done old new = IsTrue (state g new).is_open → IsIdle (state g old) → Done old new

-- One step of opening the tables. Before the step, the tables represent a club as `Before`
-- describes.
-- - After success, the tables represent the same club with the index of the bookings. `Done`
--   relates the old state to the new state.
-- - After a failure, the tables still represent the club as `Before` describes. `Fails` describes
--   the fault.
-- - A crash leaves a state that a crash before the step could leave, or the result of statements
--   that satisfy `IsOpeningBatch`.
pub record Opens {S : Type 0} (g : Ghosts S) (Before : Held S → Club → List Club → Type 0) (Done : Held S → Held S → Type 0)
    (Fails : Held S → Held S → StoreFault → Type 0) (old new : Held S) (result : Result (Unit {0}) StoreFault) : Type 0
  where
    pub represents : HasCleanDisk (state g new) → OnOk result
        ((club : Club) (others : List Club) → Before old club others → Represents (state g new) club others)
    pub done : HasCleanDisk (state g new) → OnOk result (Done old new)
    pub keeps_club : HasCleanDisk (state g new) → OnErr result (KeepsClub Before old new)
    pub fault : HasCleanDisk (state g new) → IfErr result (Fails old new)
    pub survives : Survives (state g old) (state g new) (MayCommit g 0 IsOpeningBatch old)

-- A step of opening the tables. The step runs all of these statements.
abbrev pub RunsBatch : {S : Type 0} → Ghosts S → (Held S → Club → List Club → Type 0) → List BoundStatement → Held S → Held S
    → Result (Unit {0}) StoreFault → Type 0
RunsBatch g Before statements =
    Opens g Before (λ old new. Ran g 0 statements old (state g new).committed) (FailsToRun g 0 statements)
