-- Defines functions that read values from texts, the values of arguments that `club_values` doesn't
-- parse, and the value that represents a `Job` in contracts.
use Rattle.std.specs.Prelude.{ℕ, List, ◌≡◌, ◌↔◌, Option, Some, ◌&&◌, length, nat_le, if◌then◌else◌, None, option_and_then}
use Rattle.club_rows.specs.Rows.{booking_number_limit, max_root_len, min_root_len}
use Rattle.club_values.specs.{Kind.kind_text, Moment.{SpellsDay, SpellsHour, SpellsMoment}, Name.IsName, Number.number_of_digits, declared.kind.Kind.Kind}
use Rattle.clubdesk_arguments.specs.declared.task.Work.{Work}
use Rattle.command_line.specs.Arguments.{root_of}

-- The database's file, and the work on the database.
pub record JobModel : Type 0 where
  pub file : List ℕ
  pub work : Work

-- For each kind of value, a function that reads a value of this kind from a text.
pub record Readers : Type 0 where
  pub name : List ℕ → Option (List ℕ)
  pub kind : List ℕ → Option Kind
  pub day : List ℕ → Option ℕ
  pub hour : List ℕ → Option ℕ
  pub moment : List ℕ → Option ℕ

-- Each function returns a value if and only if the text encodes the value. Any two exact readers
-- therefore return the same values.
pub record ReadExactly (read : Readers) : Type 0 where
  pub names : (text name : List ℕ) → (read.name text ≡ Some name) ↔ (IsName text × (name ≡ text))
  pub kinds : (text : List ℕ) (kind : Kind) → (read.kind text ≡ Some kind) ↔ (text ≡ kind_text kind)
  pub days : (text : List ℕ) (n : ℕ) → (read.day text ≡ Some n) ↔ SpellsDay text n
  pub hours : (text : List ℕ) (n : ℕ) → (read.hour text ≡ Some n) ↔ SpellsHour text n
  pub moments : (text : List ℕ) (n : ℕ) → (read.moment text ≡ Some n) ↔ SpellsMoment text n

-- A number of 1 to 9 decimal digits.
unfoldable pub parse_number : List ℕ → Option ℕ
parse_number text = number_of_digits text

abbrev pub where_between : ℕ → ℕ → Option ℕ → Option ℕ
where_between least most None = None
where_between least most (Some number) = if nat_le least number && nat_le number most then Some number else None

-- A TCP port. Port 0 asks for any free port.
abbrev pub port_of : List ℕ → Option ℕ
port_of text = where_between 0 65_535 (parse_number text)

-- A number of connections from 1 to 1,000,000.
abbrev pub count_of : List ℕ → Option ℕ
count_of text = where_between 1 1_000_000 (parse_number text)

-- A booking number from 1 to 999,999,999.
abbrev pub booking_number_of : List ℕ → Option ℕ
booking_number_of text = where_between 1 booking_number_limit (parse_number text)

-- A timeout from 1 to 3,600 seconds.
abbrev pub patience_of : List ℕ → Option ℕ
patience_of text = where_between 1 3_600 (parse_number text)

abbrev pub has_key_root_length : List ℕ → Option (List ℕ)
has_key_root_length bytes = if nat_le min_root_len (length bytes) && nat_le (length bytes) max_root_len then Some bytes else None

-- A root of 16 to 64 bytes, written in hexadecimal. Upper-case and lower-case letters are allowed.
unfoldable pub key_root_of : List ℕ → Option (List ℕ)
key_root_of text = option_and_then has_key_root_length (root_of text)
