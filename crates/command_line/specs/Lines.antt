-- This file defines what a run of a program prints on standard error.
use Rattle.std.specs.Prelude.{◌≡◌, ℕ, List, Option, Result, Ok, Err}
use Rattle.command_line.specs.declared.process.FaultLines.{Ghosts as LinesWords}

-- The texts that a run printed on standard error. `prints` states that the run printed the text once, and
-- nothing else. `no_change` states that the run printed nothing.
pub record LinesChange : Type 1 where
  pub prints : Option (List ℕ) → Type 0
  pub no_change : Type 0

abbrev pub lines_change : {P : Type 0} → LinesWords P → P → P → LinesChange
lines_change lines old new = record { prints = λ text. lines.prints old text new; no_change = new ≡ old }

-- A run that failed printed the text of its fault once. A run that succeeded printed nothing.
abbrev pub PrintsFault : {A F : Type 0} → (F → Option (List ℕ)) → LinesChange → Result A F → Type 0
PrintsFault text_of lines (Ok done) = lines.no_change
PrintsFault text_of lines (Err fault) = lines.prints (text_of fault)
