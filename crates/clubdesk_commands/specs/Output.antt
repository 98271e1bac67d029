-- Defines what a run writes to its output and to its log.
use Rattle.std.specs.{Io.KnownBytes.Appends, Prelude.{◌≡◌, ◌⊎◌, ℕ, List, Option, Result, Ok, Err, IfErr, String}, String.string_bytes}
use Rattle.clubdesk_arguments.specs.declared.fault.Fault.{Fault, TheVariants.{Arguments, BadValue, ClockOutOfRange, InputOutput}}
use Rattle.command_line.specs.Process.{AppendsFront}
use Rattle.desk_server.specs.{Served.{AreNoted, Turn}, declared.log.Log.Ghosts as LogWords}

-- The bytes of a reader or a writer before and after a run, if the bytes are known. A reader's
-- bytes are the bytes that remain to be read. A writer's bytes are the bytes that have been written
-- so far. `no_change` states that the run didn't change the reader or the writer.
pub record Stream : Type 1 where
  pub before : Option (List ℕ)
  pub after : Option (List ℕ)
  pub no_change : Type 0

-- The stream of a reader or a writer whose state changes from `old` to `new`.
abbrev pub stream : {S : Type 0} → (S → Option (List ℕ)) → S → S → Stream
stream bytes old new = record { before = bytes old; after = bytes new; no_change = new ≡ old }

-- The change of a log during a run. `notes` states which turns of a server the log noted.
-- `no_change` states that the log is unchanged.
pub record LogChange : Type 1 where
  pub notes : List Turn → Type 0
  pub no_change : Type 0

abbrev pub log_change : {L : Type 0} → LogWords L → L → L → LogChange
log_change log old new = record { notes = λ turns. AreNoted log.begins log.notes old turns new; no_change = new ≡ old }

-- The program wrote all of the text. If the writer failed, the program wrote a prefix of the text.
abbrev pub WritesText : List ℕ → Stream → Result Unit Fault → Type 0
WritesText text written (Ok done) = Appends written.before written.after text
WritesText text written (Err InputOutput) = AppendsFront written.before written.after text
WritesText text written (Err fault) = ⊥

-- The bytes of an answer's text, or the fault of the answer.
abbrev pub text_of : {Z : Type 0} → Result (String Z) Fault → Result (List ℕ) Fault
text_of (Ok text) = Ok (string_bytes text)
text_of (Err fault) = Err fault

-- The program wrote the text of an answer. If the answer is a fault, the run fails with the same
-- fault and writes nothing.
abbrev pub Prints : Result (List ℕ) Fault → Stream → Result Unit Fault → Type 0
Prints (Ok text) written result = WritesText text written result
Prints (Err fault) written result = (result ≡ Err fault) × written.no_change

-- A fault of a run whose arguments and input were valid.
abbrev pub IsWorkFault : Fault → Type 0
IsWorkFault (Arguments error) = ⊥
IsWorkFault BadValue = ⊥
IsWorkFault fault = Unit {0}

-- The result of a run whose arguments and input were valid. If the run fails, the fault is neither
-- `Arguments` nor `BadValue`. A failed run has written nothing, unless the fault is
-- `ClockOutOfRange` or `InputOutput`.
abbrev pub EndsWork : Type 0 → Result Unit Fault → Type 0
EndsWork Unwritten result = IfErr result (λ fault. IsWorkFault fault × ((fault ≡ ClockOutOfRange) ⊎ (fault ≡ InputOutput) ⊎ Unwritten))
