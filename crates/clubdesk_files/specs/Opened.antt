-- Defines the store that results from opening a database in a file.
use Rattle.std.specs.Prelude.{List, Option, IfOk, IfSome, Result}
use Rattle.club_core.specs.declared.store.StoreFault.{StoreFault}
use Rattle.club_store.specs.Opening.{OpensFrom}
use Rattle.clubdesk_files.specs.{Named.IsWatched, declared.{named.NamedStore.NamedStore, open_file.OpenFile.OpenFile}}
use Rattle.desk_server.specs.declared.databases.{Reached.{Reached, TheVariants.{Opened, Served}}}
use Rattle.sqlite.specs.{Files.file_state, Held.Held, Recovery.Image, State.HasCleanDisk, declared.FileStore.FileStore}
use Rattle.sqlite_disk.specs.declared.Disk as disk

-- If the disk is clean, the store was opened from files with the image `start`, and represents the
-- club in these files.
abbrev pub IsOpenedFrom : {D : Type 0} {g : disk.Ghosts D} → Image → Held (FileStore D g) → Type 0
IsOpenedFrom start store = HasCleanDisk (file_state store) → OpensFrom start store

-- The result of opening a database for a server. If the opening succeeded, the store was opened from
-- files with the image `start`.
abbrev pub OpensServer : {D : Type 0} {g : disk.Ghosts D} → Image → Result (NamedStore (Held (FileStore D g)) OpenFile) StoreFault → Type 0
OpensServer start result = IfOk result (λ named. IsOpenedFrom start named.store)

-- The store was opened from files with the image `start`, and the program never checks the name of
-- its file. A server has no such property.
abbrev pub IsOpenedByOffice : {D V : Type 0} {g : disk.Ghosts D} → Image → Reached (NamedStore (Held (FileStore D g)) OpenFile) V → Type 0
IsOpenedByOffice start (Opened named) = IsOpenedFrom start named.store × ¬ IsWatched named.file
IsOpenedByOffice start (Served visit) = Unit {0}
