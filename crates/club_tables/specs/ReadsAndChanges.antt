-- This file defines the club that a connection represents, and the promises of reads and changes.
use Rattle.std.specs.Prelude.{◌≡◌, ◌⊎◌, ℕ, List, ◌∷◌, All, Result, IfErr, OnErr}
use Rattle.club_core.specs.{After.InLimits, Club.{Club, IsSound}, Store.{Changes, FitsClub, KeepsClub, Returns}, declared.change.Change.Change}
use Rattle.club_core.specs.declared.store.StoreFault.{StoreFault, TheVariants.Storage}
use Rattle.club_tables.specs.{Answers.{IsAfterReadings, IsReadFault}, ChangeStatements.{AreStatementsOf, statements_of}, Tables.Represents}
use Rattle.club_tables.specs.{Tables.{RepresentsVersion1, RepresentsVersion2, IsFound}, Transaction.{FailsToRun, BoundStatement, IsUntouched, MayCommit}}
use Rattle.sqlite.specs.{Held.{Held, state}, State.{HasCleanDisk, Survives}, Store.Ghosts}

abbrev pub represents_in : {S : Type 0} → Ghosts S → Held S → Club → List Club → Type 0
represents_in g held = Represents (state g held)

-- The connection represents the club. This club is sound, and each club that a crash may leave is
-- sound too.
abbrev pub sound_in : {S : Type 0} → Ghosts S → Held S → Club → List Club → Type 0
sound_in g held club others = All IsSound (club ∷ others) × Represents (state g held) club others

abbrev pub version_1_in : {S : Type 0} → Ghosts S → Held S → Club → List Club → Type 0
version_1_in g held = RepresentsVersion1 (state g held)

abbrev pub version_2_in : {S : Type 0} → Ghosts S → Held S → Club → List Club → Type 0
version_2_in g held = RepresentsVersion2 (state g held)

abbrev pub found_in : {S : Type 0} → Ghosts S → Held S → Club → List Club → Type 0
found_in g held = IsFound (state g held)

-- A call that only reads. Its result is correct for the current club. The call changes neither the
-- club nor the clubs that a crash may leave. If no write was pending, the connection is unchanged.
-- If the database refuses a query, the call returns the fault for the database's error. The call
-- returns `Storage` if the rows can't be decoded, and `Memory` if there is no memory for a day's
-- decoded bookings.
pub record ReadsClub {S A : Type 0} (g : Ghosts S) (old new : Held S) (result : Result A StoreFault) (IsReturned : Club → A → Type 0) : Type 0 where
  pub returns : HasCleanDisk (state g new) → Returns (represents_in g) old result IsReturned
  pub kept : HasCleanDisk (state g new) → KeepsClub (represents_in g) old new
  pub no_change : IsUntouched (state g old) (state g new)
  pub survives : Survives (state g old) (state g new) (λ _. ⊥)
  pub fault : HasCleanDisk (state g new) → IfErr result (IsReadFault g old new)

-- A transaction of these statements failed with this fault, perhaps after reads.
pub record IsRunFault {S : Type 0} (g : Ghosts S) (fewest : ℕ) (statements : List BoundStatement) (old new : Held S) (fault : StoreFault) : Type 0 where
  pub from : Held S
  pub after : IsAfterReadings g old from
  pub failure : FailsToRun g fewest statements from new fault

-- A change fails with this fault because a value is outside its limits, the database refuses a
-- statement or the commit, or a statement writes no row.
abbrev pub IsChangeFault : {S : Type 0} → Ghosts S → Change → Held S → Held S → StoreFault → Type 0
IsChangeFault g change old new fault = IsRunFault g 1 (statements_of change) old new fault ⊎ ((¬ InLimits change) × (fault ≡ Storage))

-- A call that applies a change. If the call succeeds, the change fits the club and is applied. If
-- no write was pending, a failed call leaves the connection unchanged. If a crash follows a failed
-- call, the database may nevertheless contain the effects of the change's statements. In this case,
-- each statement wrote a row.
pub record ChangesClub {S : Type 0} (g : Ghosts S) (change : Change) (old new : Held S) (result : Result (Unit {0}) StoreFault) : Type 0 where
  pub was_clean : HasCleanDisk (state g new) → HasCleanDisk (state g old)
  pub effect : HasCleanDisk (state g new) → Changes (represents_in g) change old new result
  pub no_change : OnErr result (IsUntouched (state g old) (state g new))
  pub survives : Survives (state g old) (state g new) (MayCommit g 1 (AreStatementsOf change) old)
  pub fault : HasCleanDisk (state g new) → IfErr result (IsChangeFault g change old new)
  -- If the change fits the club, each of its statements writes a row. So the change can only fail
  -- because of an error of the database.
  pub fault_if_fits : HasCleanDisk (state g new) → (club : Club) (others : List Club) → represents_in g old club others → FitsClub change club
      → IfErr result (IsRunFault g 0 (statements_of change) old new)
