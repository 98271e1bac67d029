-- Defines the JSON that encodes a command for a server, and how the program reads a key's root from
-- standard input.
use Rattle.std.specs.{Io.BufRead.strip_last, Prelude.{◌≡◌, ℕ, List, Option, Some, None, Result, Ok, Err, if◌then◌else◌, ◌∷◌, map}, Str.{is_utf8, IsUtf8}}
use Rattle.std.specs.String.{string_bytes}
use Rattle.clap.specs.Words.{Text}
use Rattle.clubdesk_arguments.specs.{Values.key_root_of, declared.fault.Fault.{Fault, TheVariants.{BadValue, InputOutput}}}
use Rattle.clubdesk_commands.specs.declared.handed_command.HandedCommand.{HandedCommand}
use Rattle.command_line.specs.Process.{ReadsAtMost}
use Rattle.serde_json.specs.{Data.{Data, array, string}, Read.read, View.items_of}

-- The root that the text encodes in hexadecimal, or `None`.
abbrev pub root_of_text : List ℕ → Option (List ℕ)
root_of_text text = if is_utf8 text then key_root_of text else None

-- The root that the bytes encode in hexadecimal, or `None`. A line feed at the end of the bytes is
-- ignored.
abbrev pub root_in_input : List ℕ → Option (List ℕ)
root_in_input bytes = root_of_text (strip_last 10 bytes)

-- The program reads at most 130 bytes of the input, and decodes the root from these bytes. A root
-- in hexadecimal and a line feed have at most 129 bytes together.
abbrev pub TakesRoot : Option (List ℕ) → Option (List ℕ) → Result (List ℕ) Fault → Type 0
TakesRoot left left' (Ok root) = (bytes : List ℕ) × ReadsAtMost 130 left left' bytes × (root_in_input bytes ≡ Some root)
TakesRoot left left' (Err BadValue) = (bytes : List ℕ) × ReadsAtMost 130 left left' bytes × (root_in_input bytes ≡ None)
TakesRoot left left' (Err InputOutput) = Unit {0}
TakesRoot left left' (Err fault) = ⊥

-- An array of texts. The first text is the root, and the others are the arguments. The root is an
-- empty text if the command gives no root to a key.
abbrev pub command_data : Text → List Text → Data
command_data root arguments = array (items_of (map string (root ∷ arguments)))

-- The bytes are JSON for the command with this root and these arguments.
pub record SpellsCommand (bytes : List ℕ) (root : Text) (arguments : List Text) : Type 0 where
  pub utf8 : IsUtf8 bytes
  pub spelled : read bytes ≡ Some (command_data root arguments)

-- The bytes encode no command.
abbrev pub SpellsNoCommand : List ℕ → Type 0
SpellsNoCommand bytes = (root : Text) (arguments : List Text) → SpellsCommand bytes root arguments → ⊥

-- The bytes encode this command. `None` means that the bytes encode no command.
abbrev pub IsCommandOf : List ℕ → Option HandedCommand → Type 0
IsCommandOf bytes (Some command) = SpellsCommand bytes (string_bytes command.root) (map string_bytes command.arguments.items)
IsCommandOf bytes None = SpellsNoCommand bytes
