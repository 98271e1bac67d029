-- Defines the results of opening a club's file and its log, the clubs that a crash of a store may
-- leave, and the club that a reopened store represents.
use Rattle.sqlite_disk.specs.declared.Disk as disk
use Rattle.sqlite.specs.FileStore as file
use Rattle.club_store.specs.declared.failed_opening.FailedOpening.TheVariants as failed
use Rattle.std.specs.Prelude.{List, [], ◌∷◌, All, ◌⊎◌, IsTrue, ◌≡◌, ◌≢◌, Option, None, false, IfSome}
use Rattle.club_core.specs.{Club.{Club, IsSound, empty_club}, Store.KeepsClub, declared.store.StoreFault.{StoreFault, TheVariants.Memory}}
use Rattle.club_store.specs.declared.failed_opening.FailedOpening.{FailedOpening}
use Rattle.club_tables.specs.{Opening.{AcceptsTables, IsOpeningBatch, IsOpeningFault}, ReadsAndChanges.found_in, Tables.{IsLeftOf, Represents, IsFound}}
use Rattle.club_tables.specs.Transaction.{MayCommit, IsKept, fault_by}
use Rattle.sqlite.specs.{Files.{HoldsDatabase, over_files, file_state, image_of, IsOpened, IsCleanLeft, FailsToOpenFiles, LeavesFiles}, Held.{Held, state}}
use Rattle.sqlite.specs.{Recovery.Image, Start.FindsIn, State.{State, Opens, IsLive, HasCleanDisk, Survives}, Steps.{over_memory, IsEmpty}, Store.Ghosts}
use Rattle.sqlite.specs.{Tree.Trees, View.IsClean, WalFiles.outcomes, declared.{FileStore.FileStore, error.Error.{Error, TheVariants.SqliteFailure}}}
use Rattle.sqlite.specs.declared.{error.ErrorCode.TheVariants.{DatabaseBusy, CannotOpen, OutOfMemory}, file.Leftover.Leftover}
use Rattle.sqlite_disk.specs.declared.Files.{Files}

-- If the disk is clean, the store contains the database of one of these clubs after any crash.
abbrev pub LeavesOneOf : {S : Type 0} → Ghosts S → S → List Club → Type 0
LeavesOneOf g store clubs = IsClean (g.view store) → (trees : Trees) → g.recovers store trees → IsLeftOf trees clubs

-- Each of these clubs is sound. If the store's disk has been clean so far, a crash leaves the
-- database of one of these clubs.
abbrev pub leaves_sound_in : {S : Type 0} → Ghosts S → S → Club → List Club → Type 0
leaves_sound_in g store club others =
    All IsSound (club ∷ others) × IsTrue (g.view store).is_numbered × LeavesOneOf g store (club ∷ others)

-- A newly opened connection to the database of one of these clubs.
pub record IsOpenedOn (state : State) (clubs : List Club) : Type 0 where
  pub opening : Opens state
  pub live : IsLive state
  pub left : IsLeftOf state.committed.trees clubs

-- The state represents one of these clubs, and a crash can leave only that club.
abbrev pub RepresentsOne : State → List Club → Type 0
RepresentsOne state [] = ⊥
RepresentsOne state (club ∷ clubs) = Represents state club [] ⊎ RepresentsOne state clubs

-- The tables of version 1 or 2 represent one of these clubs, and a crash can leave only that club.
-- If there are no tables yet, the club is empty.
abbrev pub OneIsFound : State → List Club → Type 0
OneIsFound state [] = ⊥
OneIsFound state (club ∷ clubs) = IsFound state club [] ⊎ OneIsFound state clubs

-- The file and its log contain the database of one of these clubs.
abbrev pub HoldsOneOf : Image → List Club → Type 0
HoldsOneOf image clubs = (trees : Trees) × HoldsDatabase image trees × IsLeftOf trees clubs

-- A crash may leave this image of a store's file and log. After a crash, the store contains one of
-- the clubs in `clubs`.
pub record CrashLeaves {D : Type 0} {g : disk.Ghosts D} (store : FileStore D g) (clubs : List Club) (left : Image) : Type 0 where
  pub clean : IsClean (file.view store)
  pub numbers : IsTrue (file.view store).is_numbered
  pub one_of : LeavesOneOf over_files store clubs
  pub files : (file.state store).may_leave left

-- The error for a file that another program has open.
abbrev pub busy : Error
busy = SqliteFailure DatabaseBusy

-- `left` is the `FailedOpening` for this error of the database engine. If the engine returned no
-- files because another program has the file open, `left` is `InUse`. Otherwise, `left` contains
-- the files that the engine returned, if there are any.
pub data IsFailedOpening {D : Type 0} {g : disk.Ghosts D} (error : Error) (rest : Option (Leftover D g)) (left : FailedOpening D g) : Type 0 where
  in_use : error ≡ busy → rest ≡ None → left ≡ failed.InUse → IsFailedOpening error rest left
  files : (rest ≡ None → error ≢ busy) → left ≡ failed.Files rest → IsFailedOpening error rest left

-- A crash after the opening leaves a state that a crash could leave before the opening, or the
-- state after the opening's SQL statements.
abbrev pub SurvivesOpening : {S : Type 0} → Ghosts S → Held S → Held S → Type 0
SurvivesOpening g old new = Survives (state g old) (state g new) (MayCommit g 0 IsOpeningBatch old)

-- The connection that a failed opening returns. The connection still represents the club that it
-- represented before the opening. If the connection isn't in a transaction, the database is also
-- unchanged. A crash leaves a state that a crash could leave before the opening, or the state after
-- the opening's SQL statements.
pub record IsHandedBack {S : Type 0} (g : Ghosts S) (old new : Held S) : Type 0 where
  pub clean : HasCleanDisk (state g new) → HasCleanDisk (state g old)
  pub kept : HasCleanDisk (state g new) → KeepsClub (found_in g) old new
  pub mode : new.in_transaction ≡ old.in_transaction
  pub same_database : old.in_transaction ≡ false → IsKept (state g old) (state g new)
  pub survives : SurvivesOpening g old new
  -- If the connection was newly opened on the database of one of these clubs, the connection still
  -- represents one of these clubs. A crash can leave only that club.
  pub again : HasCleanDisk (state g new) → (clubs : List Club) → IsOpenedOn (state g old) clubs → OneIsFound (state g new) clubs

-- The store was opened from files with the image `start`. The opening accepted the tables of the
-- database, and the store represents the club of the database.
pub record OpensFrom {D : Type 0} {g : disk.Ghosts D} (start : Image) (now : Held (FileStore D g)) : Type 0 where
  pub was : Held (FileStore D g)
  pub opening : IsOpened was
  pub found : FindsIn start (file_state was)
  pub acceptance : IsTrue (file_state now).is_open → AcceptsTables over_files was now
  pub survives : SurvivesOpening over_files was now
  pub represents : (club : Club) (others : List Club) → IsFound (file_state was) club others → Represents (file_state now) club others
  -- If the files contained one of these clubs, the store represents one of these clubs. A crash can
  -- leave only that club.
  pub again : (clubs : List Club) → HoldsOneOf start clubs → RepresentsOne (file_state now) clubs
  -- If the file was empty, the store represents the empty club.
  pub fresh : start.db ≡ [] → Represents (file_state now) empty_club []

-- The fault if a database in memory couldn't be opened. Memory ran out, or the tables of the empty
-- club couldn't be created.
abbrev pub IsMemoryFault : StoreFault → Type 0
IsMemoryFault fault = (fault ≡ Memory) ⊎ ((was : _) × (now : _) × IsEmpty (state over_memory was) × IsOpeningFault over_memory was now fault)

-- The fault of a file that the database engine couldn't open. If the engine returned no files, the
-- file couldn't be opened, or memory ran out. If the engine returned files, it couldn't open the
-- database in the files.
pub record IsFileFault {D : Type 0} {g : disk.Ghosts D} (start : Image) (rest : Option (Leftover D g)) (fault : StoreFault) : Type 0 where
  pub error : Error
  pub without_files : rest ≡ None → (error ≡ SqliteFailure CannotOpen) ⊎ (error ≡ SqliteFailure OutOfMemory)
  pub cause : IfSome rest (λ left. (files : Files D) × (image_of g files ≡ start) × (IsCleanLeft left → FailsToOpenFiles files left error))
  pub fault_is : fault ≡ fault_by error

-- The fault of an opening that doesn't accept the tables in the file.
pub record IsTablesFault {D : Type 0} {g : disk.Ghosts D} (start : Image) (now : Held (FileStore D g)) (fault : StoreFault) : Type 0 where
  pub was : Held (FileStore D g)
  pub opening : HasCleanDisk (file_state was) → IsOpened was × FindsIn start (file_state was)
  pub failure : HasCleanDisk (file_state now) → IsOpeningFault over_files was now fault

-- The fault of a failed opening. The opening fails in one of three cases:
-- - Another program has the file open.
-- - The file couldn't be opened, memory ran out, or the database engine refused the file.
-- - The opening doesn't accept the tables in the file.
abbrev pub FailsFrom : {D : Type 0} {g : disk.Ghosts D} → Image → FailedOpening D g → StoreFault → Type 0
FailsFrom start failed.InUse fault = fault ≡ fault_by busy
FailsFrom start (failed.Files rest) fault = IsFileFault start rest fault
FailsFrom start (failed.Connection now) fault = IsTablesFault start now fault

-- The files that a failed opening returns. Before the opening, the files had the image `start`. The
-- contract of the database engine defines which bytes a crash may leave in the files.
pub record IsLeftOfFiles {D : Type 0} {g : disk.Ghosts D} (start : Image) (left : Leftover D g) : Type 0 where
  pub files : Files D
  pub held : image_of g files ≡ start
  pub one_outcome : (image : Image) → outcomes g files.log files.db image → image ≡ start
  pub leaves : IsCleanLeft left → LeavesFiles files left

-- The connection that a failed opening returns. The opening didn't accept the tables in the file.
-- If the file contained a club, the connection still represents this club.
pub record IsLeftOpen {D : Type 0} {g : disk.Ghosts D} (start : Image) (now : Held (FileStore D g)) : Type 0 where
  pub was : Held (FileStore D g)
  pub opening : HasCleanDisk (file_state was) → IsOpened was × FindsIn start (file_state was)
  pub back : IsHandedBack over_files was now
  pub again : HasCleanDisk (file_state now) → (clubs : List Club) → HoldsOneOf start clubs → OneIsFound (file_state now) clubs

-- The `FailedOpening` that a failed opening returns. Before the opening, the files had the image
-- `start`.
abbrev pub LeavesFrom : {D : Type 0} {g : disk.Ghosts D} → Image → FailedOpening D g → Type 0
LeavesFrom start failed.InUse = Unit {0}
LeavesFrom start (failed.Files rest) = IfSome rest (IsLeftOfFiles start)
LeavesFrom start (failed.Connection now) = IsLeftOpen start now
