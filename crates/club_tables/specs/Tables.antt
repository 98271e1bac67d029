-- This file defines which club a database contains, and which club a connection represents.
use Rattle.std.specs.{List.AllZip, Prelude.{◌≡◌, ◌⊎◌, ℕ, ℤ, ◌==◌, if◌then◌else◌, List, [], ◌∷◌, IsTrue}}
use Rattle.club_core.specs.Club.{Club, IsSound, empty_club}
use Rattle.club_tables.specs.Columns.{version_values, member_values, facility_values, key_values, slot_values, booking_values, older_values, Rows, IsStoredAs}
use Rattle.club_tables.specs.Schema.{no_schema, first_schema, unindexed_schema, club_schema}
use Rattle.sqlite.specs.{Effect.{Database, IsDatabase}, Schema.Schema, State.{State, HasCleanDisk}}
use Rattle.sqlite_trees.specs.Tree.{Trees, IsTable}
use Rattle.sqlite_value.specs.{Order.Row, declared.value.Value.TheVariants.Int}

-- The numbers of the B-trees that contain the rows of the tables.
abbrev pub desk_tree : ℕ
desk_tree = 0

abbrev pub members_tree : ℕ
members_tree = 1

abbrev pub facilities_tree : ℕ
facilities_tree = 3

abbrev pub keys_tree : ℕ
keys_tree = 5

abbrev pub slots_tree : ℕ
slots_tree = 7

abbrev pub bookings_tree : ℕ
bookings_tree = 9

abbrev pub olders_tree : ℕ
olders_tree = 12

-- The row consists of a rowid and these values.
abbrev pub IsRowOf : Row → Row → Type 0
IsRowOf values row = (id : ℤ) × (row ≡ Int id ∷ values)

-- There is one row for each element of the list, in the same order. Each row contains a rowid and
-- the values of its element. The rowids are ascending.
pub record Holds {X : Type 0} (values : X → Row) (rows : List Row) (xs : List X) : Type 0 where
  pub rising : IsTable rows
  pub same : AllZip (λ row x. IsRowOf (values x) row) rows xs

-- The B-trees of the tables contain exactly these rows and this version.
pub record HoldsTrees (number : ℕ) (trees : Trees) (rows : Rows) : Type 0 where
  pub version : Holds version_values (trees desk_tree) (number ∷ [])
  pub members : Holds member_values (trees members_tree) rows.members
  pub facilities : Holds facility_values (trees facilities_tree) rows.facilities
  pub keys : Holds key_values (trees keys_tree) rows.keys
  pub slots : Holds slot_values (trees slots_tree) rows.slots
  pub bookings : Holds booking_values (trees bookings_tree) rows.bookings
  pub olders : Holds older_values (trees olders_tree) rows.olders

-- The database has this schema and this version, and its tables contain exactly these rows.
pub record HoldsRowsBy (tables : Schema) (number : ℕ) (trees : Trees) (db : Database) (rows : Rows) : Type 0 where
  pub schema : db.schema ≡ tables
  pub held : HoldsTrees number trees rows
  -- The database's catalog lists the schema, and the rows obey the constraints of the schema.
  pub database : IsDatabase db

-- The database has version 2 and this schema, and its tables contain exactly these rows.
abbrev pub HoldsRowsWith : Schema → Database → Rows → Type 0
HoldsRowsWith tables db = HoldsRowsBy tables 2 db.trees db

-- The database has version 2 with all indexes, and its tables contain exactly these rows.
abbrev pub HoldsRows : Database → Rows → Type 0
HoldsRows = HoldsRowsWith club_schema

-- These B-trees, but with an empty table of older roots.
abbrev pub without_olders : Trees → Trees
without_olders trees tree = if tree == olders_tree then [] else trees tree

-- The database has version 1, and its tables contain exactly these rows. Version 1 stores no older
-- roots.
abbrev pub HoldsRowsVersion1 : Database → Rows → Type 0
HoldsRowsVersion1 db = HoldsRowsBy first_schema 1 (without_olders db.trees) db

-- The tables contain exactly the rows of the club, as `HoldThem` describes. The club is sound.
pub record HoldsClubBy (HoldThem : Database → Rows → Type 0) (db : Database) (club : Club) : Type 0 where
  pub rows : Rows
  pub holds_rows : HoldThem db rows
  pub storage : IsStoredAs club rows
  pub sound : IsSound club

abbrev pub HoldsClub : Database → Club → Type 0
HoldsClub = HoldsClubBy HoldsRows

-- The tables of version 2 contain the club, and the index of the bookings is missing.
abbrev pub HoldsClubUnindexed : Database → Club → Type 0
HoldsClubUnindexed = HoldsClubBy (HoldsRowsWith unindexed_schema)

abbrev pub HoldsClubVersion1 : Database → Club → Type 0
HoldsClubVersion1 = HoldsClubBy HoldsRowsVersion1

-- The database has no tables, and the club is empty.
abbrev pub IsBlank : Database → Club → Type 0
IsBlank db club = (db.schema ≡ no_schema) × (club ≡ empty_club) × IsDatabase db

-- The tables of version 2 contain the club, with or without the index of the bookings.
abbrev pub HoldsClubVersion2 : Database → Club → Type 0
HoldsClubVersion2 db club = HoldsClub db club ⊎ HoldsClubUnindexed db club

-- The tables of version 1 or 2 contain the club. If there are no tables, the club is empty.
abbrev pub HoldsClubAnyVersion : Database → Club → Type 0
HoldsClubAnyVersion db club = HoldsClubVersion2 db club ⊎ (HoldsClubVersion1 db club ⊎ IsBlank db club)

-- The B-trees belong to a database that contains one of these clubs.
abbrev pub IsLeftOf : Trees → List Club → Type 0
IsLeftOf trees [] = ⊥
IsLeftOf trees (club ∷ others) = ((db : Database) × (db.trees ≡ trees) × HoldsClubAnyVersion db club) ⊎ IsLeftOf trees others

-- A connection represents a club under three conditions:
-- - The committed state contains the club.
-- - No write is pending.
-- - A crash leaves this club or one of the clubs in `others`.
--
-- The first two conditions apply only to an open connection. No condition applies if the disk
-- returned bytes that differ from the written bytes.
pub record RepresentsBy (IsHeld : Database → Club → Type 0) (state : State) (club : Club) (others : List Club) : Type 0 where
  pub held : HasCleanDisk state → IsTrue state.is_open → IsHeld state.committed club
  pub idle : HasCleanDisk state → IsTrue state.is_open → state.now ≡ state.committed
  pub left : HasCleanDisk state → (trees : Trees) → state.may_leave trees → IsLeftOf trees (club ∷ others)

-- The tables of version 2, with the index of the bookings, represent the club.
abbrev pub Represents : State → Club → List Club → Type 0
Represents = RepresentsBy HoldsClub

-- The tables of version 1 represent the club.
abbrev pub RepresentsVersion1 : State → Club → List Club → Type 0
RepresentsVersion1 = RepresentsBy HoldsClubVersion1

-- The tables of version 2 represent the club, with or without the index of the bookings.
abbrev pub RepresentsVersion2 : State → Club → List Club → Type 0
RepresentsVersion2 = RepresentsBy HoldsClubVersion2

-- The tables of version 1 or 2 represent the club, with or without the index of the bookings. If
-- there are no tables yet, the club is empty.
abbrev pub IsFound : State → Club → List Club → Type 0
IsFound = RepresentsBy HoldsClubAnyVersion
