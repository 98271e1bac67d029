-- This file defines the lines of a log, and a law about logs.
use Rattle.std.specs.{Fmt.decimal, Io.KnownBytes.Appends, Prelude.{◌≡◌, ℕ, ◌<◌, ◌⊎◌, List, [], ◌∷◌, ◌++◌, length, take, codes, Option, Some, None, option_map}}
use Rattle.std.specs.Prelude.{unwrap_or, Result, Ok, Err}
use Rattle.club_core.specs.declared.reply.Reply.{Reply}
use Rattle.club_http.specs.{Exchange.one_more, declared.fault.AnswerFault.AnswerFault}
use Rattle.club_values.specs.Moment.{moment_text}
use Rattle.desk_server.specs.{RequestLine.{method_of, path_of}, Served.{AreNoted, Notes, Turn, events_in}, declared.log.LogEvent.{LogEvent, TheVariants.Absent}}
use Rattle.desk_server.specs.declared.log.LogEvent.TheVariants.{Overrun, Unanswered, Exchanged, Commanded}
use Rattle.http_response.specs.Text.{status_of}

-- The given word, or a dash if the word is missing.
abbrev pub or_dash : Option (List ℕ) → List ℕ
or_dash word = unwrap_or word (codes "-")

-- The HTTP status of a completely written reply. If the exchange failed, the status is `None`.
abbrev pub written_status : Result Reply AnswerFault → Option ℕ
written_status (Ok reply) = Some (status_of reply)
written_status (Err fault) = None

-- A line of the given words, separated by spaces.
unfoldable pub words_text : Option ℕ → Option (List ℕ) → Option (List ℕ) → Option ℕ → ℕ → List ℕ
words_text moment method path status microseconds =
    or_dash (option_map moment_text moment) ++ codes " " ++ or_dash method ++ codes " " ++ or_dash path ++ codes " "
    ++ or_dash (option_map decimal status) ++ codes " " ++ decimal microseconds ++ codes "\n"

-- The line of an event.
--
-- - The line of a client has the moment, the method, the path, the status, and the microseconds
--   taken.
-- - The line of a command has the moment, `office`, the command's name, its exit status, and the
--   microseconds taken.
-- - If no complete command came, a dash replaces the command's name and its exit status.
unfoldable pub line_text : LogEvent → ℕ → List ℕ
line_text Absent microseconds = words_text None None None None microseconds
line_text Overrun microseconds = words_text None None None None microseconds
line_text Unanswered microseconds = words_text None None None None microseconds
line_text (Commanded moment None) microseconds = words_text moment (Some (codes "office")) None None microseconds
line_text (Commanded moment (Some carried)) microseconds =
    words_text moment (Some (codes "office")) (path_of carried.line) (Some carried.status) microseconds
line_text (Exchanged moment line outcome) microseconds =
    words_text (Some moment) (method_of line) (path_of line) (written_status outcome) microseconds

-- The writer took all of the text, or failed after a prefix of the text.
abbrev pub IsTextWritten : Option (List ℕ) → Option (List ℕ) → ℕ → ℕ → List ℕ → Type 0
IsTextWritten taken taken' failures failures' text =
    (Appends taken taken' text × (failures' ≡ failures))
    ⊎ ((n : ℕ) × (n < length text) × Appends taken taken' (take n text) × (failures' ≡ one_more failures))

-- For each event, in order, the writer took the event's line, or failed after a prefix of the line.
-- The number of microseconds in a line may be any number.
pub data AreWritten (taken : Option (List ℕ)) (failures : ℕ) : List LogEvent → Option (List ℕ) → ℕ → Type 0 where
  no_line : AreWritten taken failures [] taken failures
  one_line : (events : List LogEvent) (event : LogEvent) (microseconds : ℕ) (t : Option (List ℕ)) (f : ℕ) (t' : Option (List ℕ)) (f' : ℕ)
      → AreWritten taken failures events t f → IsTextWritten t t' f f' (line_text event microseconds) → AreWritten taken failures (events ++ event ∷ []) t' f'

-- If a log notes turns of the server, the log writes a line for each event in these turns. If the
-- writer fails, only a prefix of the event's line is written.
abbrev pub WritesLines : {Log : Type 0} → (Log → Log → Type 0) → Notes Log → (Log → Option (List ℕ)) → (Log → ℕ) → Type 0
WritesLines {Log} Begins Noted taken failures = (old new : Log) (turns : List Turn) → AreNoted Begins Noted old turns new
    → AreWritten (taken old) (failures old) (events_in turns) (taken new) (failures new)
