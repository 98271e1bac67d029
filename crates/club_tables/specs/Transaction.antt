-- This file defines the club's SQL statements as SQLite understands them, and the results and the
-- effects of statements that run in one transaction. It also defines the faults of queries,
-- statements and transactions that fail.
use Rattle.std.specs.Prelude.{ℕ, pos, negsuc, false, None, List, [], map, ◌≡◌, ◌<◌, ◌≤◌, true, ◌∷◌, length, Ok, IsTrue, is_ok, ◌⊎◌, Result, Err, IfErr, OnOk}
use Rattle.std.specs.Prelude.{OnErr}
use Rattle.club_core.specs.declared.store.StoreFault.{StoreFault, TheVariants.{Memory, Storage}}
use Rattle.club_tables.specs.declared.transaction.Statement.{Statement}
use Rattle.sqlite.specs.{Effect.Database, Held.{Held, state}, Listing.understood, Order.Row, Query.{Query, Join}, Schema.Schema, State.{State, HasCleanDisk}}
use Rattle.sqlite.specs.{State.{Executes, Shown, Survives, FailsToQuery, IsNotRun, ExecutesInside}, Steps.FailsToCommit, Store.Ghosts, Term.{Term, lit, col}}
use Rattle.sqlite.specs.{Term.op2, Tree.Trees, Values.bound, declared.error.{Error.{Error, TheVariants.SqliteFailure}, ErrorCode.TheVariants.OutOfMemory}}
use Rattle.sqlite_sql.specs.declared.ops.{BinaryOp.TheVariants.Compare, CompareOp.TheVariants.Eq}
use Rattle.sqlite_value.specs.{Keys.ascending, declared.{keys.Collation.TheVariants.Binary, value.Value.TheVariants.Int}}

-- The condition that the column at this position equals a parameter. Parameters are numbered from
-- 0.
abbrev pub is_given : ℕ → ℕ → Term
is_given place parameter = op2 (Compare Eq Binary) (col 1 place) (col 0 parameter)

-- A query of the form `SELECT .. FROM .. WHERE ..`, without `ORDER BY`.
abbrev pub select : Join → List Term → List Term → Query
select from filter project = record {
  from = from;
  filter = filter;
  group = None;
  project = project;
  distinct = false;
  collations = [];
  order = [];
  limit = lit (Int (negsuc 0));
  offset = lit (Int (pos 0));
}

-- A query with `ORDER BY`. The order is ascending, and texts are compared by their bytes.
abbrev pub in_order : List Term → Query → Query
in_order terms query = record query { order = map (λ (term : Term). (term, ascending Binary)) terms }

-- The fault for an error of the database: `Memory` if the database ran out of memory, else
-- `Storage`.
abbrev pub fault_by : Error → StoreFault
fault_by (SqliteFailure OutOfMemory) = Memory
fault_by _ = Storage

-- The connection at the start of a transaction.
abbrev pub transaction_start : {S : Type 0} → Held S → Held S
transaction_start held = record held { in_transaction = true }

-- The query ran with these parameters, and returned these rows.
pub record Asked {S : Type 0} (g : Ghosts S) (sql : List ℕ) (params : Row) (old : Held S) (rows : List Row) : Type 0 where
  pub mid : Held S
  pub shown : Shown sql params (state g (transaction_start old)) (state g mid) rows

-- SQLite accepts the SQL text as a statement over this schema.
abbrev pub IsUnderstood : Schema → List ℕ → Type 0
IsUnderstood schema sql = IsTrue (is_ok (understood schema sql))

-- Nothing was committed, and no write is pending.
abbrev pub IsKept : State → State → Type 0
IsKept old new = HasCleanDisk new → IsTrue new.is_open → IsTrue old.is_open × (new.now ≡ old.committed) × (new.committed ≡ old.committed)

-- No write is pending.
abbrev pub IsIdle : State → Type 0
IsIdle state = IsTrue state.is_open → state.now ≡ state.committed

-- If no write was pending, the connection is unchanged.
abbrev pub IsUntouched : State → State → Type 0
IsUntouched old new = IsIdle old → IsKept old new

-- The text of an SQL statement, with the values of its parameters.
abbrev pub BoundStatement : Type 0
BoundStatement = List ℕ × Row

abbrev pub bound_statement : Statement → BoundStatement
bound_statement statement = (statement.text.now, bound statement.params.now)

-- The statements ran in order, over an open connection, in a transaction that had already started.
-- Each statement wrote at least `fewest` rows.
abbrev pub RanInTurn : {S : Type 0} → Ghosts S → ℕ → List BoundStatement → Held S → Held S → Type 0
RanInTurn g fewest [] old new = new ≡ old
RanInTurn {S} g fewest (statement ∷ more) old new =
    (mid : Held S) × (count : ℕ) × Executes statement.0 statement.1 (state g old) (state g mid) (Ok count) × RanInTurn g fewest more mid new
    × (fewest ≤ count) × IsTrue (state g old).is_open

-- The statements ran in order, in a transaction of their own, and the result is this database. Each
-- statement wrote at least `fewest` rows.
pub record Ran {S : Type 0} (g : Ghosts S) (fewest : ℕ) (all : List BoundStatement) (old : Held S) (db : Database) : Type 0 where
  pub last : Held S
  pub was_open : 0 < length all → IsTrue (state g old).is_open
  pub turns : RanInTurn g fewest all (transaction_start old) last
  pub is : db ≡ (state g last).now

-- Statements that satisfy `AreStatements` ran in one transaction, and the B-trees are the result.
-- The transaction started from `old`, perhaps after reads. Each statement wrote at least `fewest`
-- rows. A crash may leave these B-trees.
pub record MayCommit {S : Type 0} (g : Ghosts S) (fewest : ℕ) (AreStatements : List BoundStatement → Type 0) (old : Held S) (trees : Trees) : Type 0 where
  pub from : Held S
  pub same : IsUntouched (state g old) (state g from)
  pub clean : HasCleanDisk (state g from)
  pub statements : List BoundStatement
  pub are : AreStatements statements
  pub db : Database
  pub ran : Ran g fewest statements from db
  pub left : trees ≡ db.trees

-- The database refused a query, and `fault_by` maps the database's error to the fault. The disk's
-- count of failures doesn't decrease.
pub record FailsToAsk {S : Type 0} (g : Ghosts S) (statement : BoundStatement) (old new : Held S) (fault : StoreFault) : Type 0 where
  pub mid : Held S
  pub error : Error
  pub failure : FailsToQuery statement.0 statement.1 (state g (transaction_start old)) (state g mid) error
  pub fault_count : (state g mid).faults ≤ (state g new).faults
  pub fault_is : fault ≡ fault_by error

-- The database refused to prepare an SQL text, and `fault_by` maps the database's error to the
-- fault.
pub record FailsToPrepare {S : Type 0} (g : Ghosts S) (sql : List ℕ) (old new : Held S) (fault : StoreFault) : Type 0 where
  pub mid : Held S
  pub error : Error
  pub failure : IsNotRun (state g (transaction_start old)) (state g mid) sql [] error
  pub fault_count : (state g mid).faults ≤ (state g new).faults
  pub fault_is : fault ≡ fault_by error

-- A statement fails in two cases:
-- - The database refuses the statement, and the fault corresponds to the database's error.
-- - The statement writes fewer rows than required, and the fault is `Storage`.
abbrev pub StopsAt : {S : Type 0} → Ghosts S → ℕ → BoundStatement → Held S → Held S → StoreFault → Type 0
StopsAt g fewest statement old new fault =
    ((error : Error) × ExecutesInside 0 statement.0 statement.1 (state g old) (state g new) (Err error) × (fault ≡ fault_by error))
    ⊎ ((count : ℕ) × Executes statement.0 statement.1 (state g old) (state g new) (Ok count) × (count < fewest) × (fault ≡ Storage)
    × IsTrue (state g old).is_open)

-- The statements ran in order, in one transaction, until a statement failed or the database refused
-- the commit.
abbrev pub FailsInTurn : {S : Type 0} → Ghosts S → ℕ → List BoundStatement → Held S → Held S → StoreFault → Type 0
FailsInTurn g fewest [] old new fault = (error : Error) × FailsToCommit (state g old) (state g new) error × (fault ≡ fault_by error)
FailsInTurn {S} g fewest (statement ∷ more) old new fault =
    StopsAt g fewest statement old new fault
    ⊎ ((mid : Held S) × (count : ℕ) × Executes statement.0 statement.1 (state g old) (state g mid) (Ok count) × FailsInTurn g fewest more mid new fault
    × (fewest ≤ count) × IsTrue (state g old).is_open)

-- A transaction of these statements failed, because a statement failed or the database refused the
-- commit.
pub record FailsToRun {S : Type 0} (g : Ghosts S) (fewest : ℕ) (all : List BoundStatement) (old new : Held S) (fault : StoreFault) : Type 0 where
  pub mid : Held S
  pub failure : FailsInTurn g fewest all (transaction_start old) mid fault
  pub fault_count : (state g mid).faults ≤ (state g new).faults

-- The statements run in a transaction of their own, and each statement must write at least `fewest`
-- rows. If the call succeeds, all statements were committed. If the call fails, the committed state
-- is unchanged. If a crash follows a failed call, the database may nevertheless contain the effects
-- of all statements.
pub record Commits {S : Type 0} (g : Ghosts S) (fewest : ℕ) (all : List BoundStatement) (old new : Held S) (result : Result (Unit {0}) StoreFault)
    : Type 0
  where
    pub ran : HasCleanDisk (state g new) → OnOk result (IsTrue (state g new).is_open × Ran g fewest all old (state g new).committed
        × ((state g new).now ≡ (state g new).committed))
    pub kept : OnErr result (IsKept (state g old) (state g new))
    pub survives : Survives (state g old) (state g new) (λ trees. (db : Database) × Ran g fewest all old db × (trees ≡ db.trees))
    pub fault : HasCleanDisk (state g new) → IfErr result (FailsToRun g fewest all old new)
