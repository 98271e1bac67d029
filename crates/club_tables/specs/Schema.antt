-- This file defines the tables of a club as SQLite understands them. There are seven STRICT tables,
-- and every column is NOT NULL.
use Rattle.std.specs.Prelude.{ℕ, pos, true, false, codes, None, List, [], ◌∷◌, ◌++◌, map, slice_get, unwrap_or}
use Rattle.sqlite_value.specs.{Keys.plain, declared.{keys.Collation.TheVariants.Binary, value.Value.TheVariants.{Null, Int}}}
use Rattle.sqlite_sql.specs.{Term.{Term, lit, col, op2}, declared.ops.{BinaryOp.TheVariants.{And, Compare}, CompareOp.TheVariants.{Ge, Le}}}
use Rattle.sqlite_schema.specs.declared.schema.{Action.TheVariants.NoAction, Column.Column, Index.Index, Kind.{Kind, TheVariants.{Integer, Text, Blob}}}
use Rattle.sqlite_schema.specs.declared.schema.{Reference.Reference, Schema.Schema, Table.Table}
use Rattle.sqlite.specs.Change.{created}
use Rattle.sqlite_catalog.specs.Change.{indexed}

abbrev pub column_of : Kind → List ℕ → Column
column_of kind name =
    record { name = name; kind = kind; is_strict = true; not_null = true; default = Null; collation = Binary }

abbrev pub text : List ℕ → Column
text = column_of Text

abbrev pub number : List ℕ → Column
number = column_of Integer

-- The constraint `CHECK (column BETWEEN low AND high)` for the column at this position. Position 0
-- is the rowid.
abbrev pub within : ℕ → ℕ → ℕ → Term
within place low high =
    op2 And (op2 (Compare Ge Binary) (col 1 place) (lit (Int (pos low)))) (op2 (Compare Le Binary) (col 1 place) (lit (Int (pos high))))

-- A foreign key: the column at this position references the column `name` of a table.
abbrev pub refers_to : List ℕ → ℕ → Reference
refers_to parent place = record {
  columns = place ∷ [];
  parent = parent;
  parent_columns = codes "name" ∷ [];
  on_delete = NoAction;
  on_update = NoAction;
  is_deferred = false;
}

-- A table of the club. `keys` contains the column positions of its primary key, and is empty if the
-- table has no primary key.
abbrev pub table_of : List ℕ → List Column → List (List ℕ) → List Term → List Reference → Table
table_of name columns keys checks references = record {
  name = name;
  tree = 0;
  columns = columns;
  key = None;
  primary = unwrap_or (slice_get keys 0) [];
  uniques = keys;
  orders = map (λ _. plain) keys;
  checks = checks;
  references = references;
  computed = [];
  stamps = record { places = []; terms = []; formats = [] };
  is_counted = false;
}

-- The table that stores the version of the tables.
abbrev pub desk_table : Table
desk_table = table_of (codes "desk") (number (codes "version") ∷ []) [] [] []

abbrev pub members_table : Table
members_table =
    table_of (codes "members")
    (text (codes "name") ∷ number (codes "credited") ∷ number (codes "quota") ∷ number (codes "used") ∷ []) ((1 ∷ []) ∷ [])
    (within 2 0 999_999_999 ∷ within 3 0 99 ∷ within 4 0 999_999_999 ∷ []) []

abbrev pub facilities_table : Table
facilities_table =
    table_of (codes "facilities")
    (text (codes "name") ∷ text (codes "kind") ∷ number (codes "places") ∷ number (codes "price") ∷ number (codes "opens")
    ∷ number (codes "shuts") ∷ []) ((1 ∷ []) ∷ [])
    (within 3 1 50 ∷ within 4 0 9_999 ∷ within 5 0 23 ∷ within 6 1 24 ∷ []) []

abbrev pub keys_table : Table
keys_table =
    table_of (codes "keys")
    (text (codes "name") ∷ text (codes "member") ∷ column_of Blob (codes "root") ∷ number (codes "revoked") ∷ []) ((1 ∷ []) ∷ [])
    (within 4 0 1 ∷ []) (refers_to (codes "members") 2 ∷ [])

-- The columns that identify a slot.
abbrev pub slot_columns : List Column
slot_columns = text (codes "facility") ∷ number (codes "day") ∷ number (codes "hour") ∷ []

abbrev pub slots_table : Table
slots_table =
    table_of (codes "slots") (slot_columns ++ number (codes "closed") ∷ number (codes "taken") ∷ []) ((1 ∷ 2 ∷ 3 ∷ []) ∷ [])
    (within 2 10_957 47_481 ∷ within 3 0 23 ∷ within 4 0 1 ∷ []) (refers_to (codes "facilities") 1 ∷ [])

abbrev pub bookings_table : Table
bookings_table =
    table_of (codes "bookings")
    (text (codes "pass_key") ∷ number (codes "number") ∷ slot_columns
    ++ number (codes "guests") ∷ number (codes "charge") ∷ number (codes "remains") ∷ number (codes "cancelled")
    ∷ number (codes "refund") ∷ []) ((1 ∷ 2 ∷ []) ∷ [])
    (within 2 1 999_999_999 ∷ within 4 10_957 47_481 ∷ within 5 0 23 ∷ within 6 0 49 ∷ within 7 0 499_950 ∷ within 8 0 49
    ∷ within 9 0 1 ∷ within 10 0 499_950 ∷ [])
    (refers_to (codes "keys") 1 ∷ refers_to (codes "facilities") 3 ∷ [])

-- The table of older roots, for keys that were rotated.
abbrev pub old_roots_table : Table
old_roots_table =
    table_of (codes "old_roots") (text (codes "pass_key") ∷ column_of Blob (codes "root") ∷ number (codes "until") ∷ []) ((1 ∷ []) ∷ [])
    (within 3 15_778_080 68_374_079 ∷ []) (refers_to (codes "keys") 1 ∷ [])

abbrev pub no_schema : Schema
no_schema = record { tables = []; indexes = []; views = [] }

-- The index that sorts keys by their members.
abbrev pub keys_by_member : Index
keys_by_member = record {
  name = codes "keys_by_member";
  tree = 0;
  table = 5;
  columns = 2 ∷ [];
  order = plain;
  is_unique = false;
}

-- The first six tables, in the order of their creation. Each table uses the next free B-trees for
-- its rows and for its primary key.
abbrev pub six_tables : Schema
six_tables =
    created (created (created (created (created (created no_schema desk_table) members_table) facilities_table) keys_table) slots_table)
    bookings_table

-- The schema of version 1.
abbrev pub first_schema : Schema
first_schema = indexed six_tables (record keys_table { tree = 5 }) keys_by_member

-- The schema of version 2 without the index of the bookings.
abbrev pub unindexed_schema : Schema
unindexed_schema = created first_schema old_roots_table

-- The index that sorts a key's bookings by `cancelled`, `day`, `hour` and `number`. The index also
-- contains `charge` and `refund`.
abbrev pub bookings_by_key : Index
bookings_by_key = record {
  name = codes "bookings_by_key";
  tree = 0;
  table = 9;
  columns = 1 ∷ 9 ∷ 4 ∷ 5 ∷ 2 ∷ 7 ∷ 10 ∷ [];
  order = plain;
  is_unique = false;
}

-- The schema of version 2, with all indexes.
abbrev pub club_schema : Schema
club_schema = indexed unindexed_schema (record bookings_table { tree = 9 }) bookings_by_key
