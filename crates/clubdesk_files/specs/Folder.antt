-- Defines which users may make a database's door, and whether the door's name leads to a door.
use Rattle.std.specs.Prelude.{◌≡◌, ◌⊎◌, ℕ, Bool, true, false, List, [], Option, Some, None, codes}
use Rattle.std.specs.declared.io.ErrorKind.{ErrorKind, TheVariants.{InvalidData}}
use Rattle.clubdesk_files.specs.declared.folder.FolderEntry.{FolderEntry}

-- A user may make the door of a database: the database's owner, the caller, or root.
abbrev pub MayMakeDoor : ℕ → ℕ → ℕ → Type 0
MayMakeDoor user owner caller = (user ≡ owner) ⊎ (user ≡ caller) ⊎ (user ≡ 0)

-- The database's owner, or the caller if the file is missing.
abbrev pub owner_of : Option FolderEntry → ℕ → ℕ
owner_of (Some file) caller = file.owner
owner_of None caller = caller

-- The entry is a socket, and its owner may make the door.
abbrev pub IsDoor : Option FolderEntry → ℕ → FolderEntry → Type 0
IsDoor file caller entry = (entry.is_socket ≡ true) × MayMakeDoor entry.owner (owner_of file caller) caller

-- `Entries` describes a look into a folder by three terms: the folder, a suffix, and the entry whose
-- name is the database's name with this suffix.
abbrev pub Entries : Type 0 → Type 1
Entries Folder = Folder → List ℕ → Option FolderEntry → Type 0

-- The outcome of a search for the door. A door was found: a socket under the door's name whose owner
-- may make the door. Or nothing has the door's name.
abbrev pub FindsDoor : {Folder : Type 0} → Entries Folder → ℕ → Folder → Bool → Type 0
FindsDoor Shows caller folder true =
    (door : FolderEntry) × (file : Option FolderEntry) × Shows folder (codes "-office") (Some door) × Shows folder [] file × IsDoor file caller door
FindsDoor Shows caller folder false = Shows folder (codes "-office") None

-- The search for the door failed. Looking into the folder failed, or something else than the door
-- has the door's name.
pub data FailsToFindDoor {Folder : Type 0} (Shows : Entries Folder) (Fails : Folder → ErrorKind → Type 0) (caller : ℕ) (folder : Folder) (kind : ErrorKind)
    : Type 0 where
  not_looked : Fails folder kind → FailsToFindDoor Shows Fails caller folder kind
  no_door : (entry : FolderEntry) (file : Option FolderEntry) → kind ≡ InvalidData → Shows folder (codes "-office") (Some entry) → Shows folder [] file
      → ¬ IsDoor file caller entry → FailsToFindDoor Shows Fails caller folder kind
