-- This file defines the part of the input that a command reads, the part of a text that a writer
-- wrote, and the text of a fault on standard error.
use Rattle.std.specs.{Fmt.with_newline, Io.{StartsWith, KnownBytes.{Consumes, IsAtEnd, Appends}}, Prelude.{ℕ, ◌<◌, ◌≤◌, List, Option, length, Bool}}
use Rattle.std.specs.Prelude.{if◌then◌else◌}

-- The call read all bytes that the reader had, or the first `most` of these bytes.
pub record ReadsAtMost (most : ℕ) (old new : Option (List ℕ)) (bytes : List ℕ) : Type 0 where
  pub consumes : Consumes old new bytes
  pub within : length bytes ≤ most
  pub at_end : length bytes < most → IsAtEnd new

-- The writer wrote a prefix of the text. The prefix may be empty, or all of the text.
abbrev pub AppendsFront : Option (List ℕ) → Option (List ℕ) → List ℕ → Type 0
AppendsFront old new text = (front : List ℕ) × StartsWith text front × Appends old new front

-- The bytes printed for a text. A text from clap already ends with a line feed. Any other text gets
-- a line feed at its end.
abbrev pub printed : Bool → Option (List ℕ) → Option (List ℕ)
printed is_text_of_clap text = if is_text_of_clap then text else with_newline text
