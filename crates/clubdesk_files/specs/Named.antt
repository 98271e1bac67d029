-- Defines a store over a file that can lose its name in the file system.
use Rattle.std.specs.Prelude.{◌≡◌, ◌⊎◌, Option, IsSome}
use Rattle.club_core.specs.{Store.StoreGhosts, declared.{change.Change.Change, store.StoreFault.{StoreFault, TheVariants.Storage}}}
use Rattle.clubdesk_files.specs.declared.{named.NamedStore.NamedStore, open_file.OpenFile.OpenFile}

-- The store fails. Or the call is a change, and the file has lost its name.
abbrev pub FailsOrIsLost : {S F : Type 0} → StoreGhosts S → (F → Type 0) → Option Change → NamedStore S F → StoreFault → NamedStore S F → Type 0
FailsOrIsLost ghosts IsLost wish old fault new =
    ghosts.fails wish old.store fault new.store ⊎ (IsSome wish × (fault ≡ Storage) × IsLost new.file)

-- The ghosts of a store over a file that can lose its name.
abbrev pub with_name : {S F : Type 0} → StoreGhosts S → (F → Type 0) → StoreGhosts (NamedStore S F)
with_name ghosts IsLost = record {
  is_clean = λ named. ghosts.is_clean named.store;
  represents = λ named. ghosts.represents named.store;
  fails = FailsOrIsLost ghosts IsLost;
}

-- The program checks before each change whether the file still has a name.
abbrev pub IsWatched : OpenFile → Type 0
IsWatched watched = IsSome watched.file
