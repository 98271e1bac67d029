-- Defines how the program sends a command to one server after another, and how it reads a server's
-- answer. Also defines the results of several attempts in a row.
use Rattle.std.specs.{Io.KnownBytes.{Appends, Consumes, IsAtEnd}, Prelude.{ℕ, ◌+◌, ◌<◌, Option, Some, None, MatchOption, ◌≡◌, ◌⊎◌, List, IsSomeAnd}}
use Rattle.std.specs.{Prelude.{Bool, true, false, Result, Ok, Err, codes}, Str.Lossy.utf8_lossy}
use Rattle.std.specs.declared.io.ErrorKind.{ErrorKind, TheVariants.{OutOfMemory, UnexpectedEof}}
use Rattle.clubdesk_files.specs.Kinds.{IsLeftUnread}
use Rattle.desk_server.specs.Served.{answer_bytes}

-- The possible results of an attempt, given the state before and after the attempt.
abbrev pub Gains : Type 0 → Type 0 → Type 1
Gains Trier Gain = Trier → Option Gain → Trier → Type 0

-- `AreInVain Gained first n last`: `n` attempts in a row, starting in the state `first`, all failed, and led to the state `last`.
pub data AreInVain {Trier Gain : Type 0} (Gained : Gains Trier Gain) (first : Trier) : ℕ → Trier → Type 0 where
  no_attempt : AreInVain Gained first 0 first
  one_more : (n : ℕ) (before after : Trier) → AreInVain Gained first n before → Gained before None after → AreInVain Gained first (n + 1) after

-- The result of the first successful attempt, or `None` if `most` attempts failed.
abbrev pub GainsWithin : {Trier Gain : Type 0} → Gains Trier Gain → ℕ → Trier → Option Gain → Trier → Type 0
GainsWithin Gained most first result last = MatchOption result
    (AreInVain Gained first most last)
    (λ gain. (n : ℕ) × (before : _) × (n < most) × AreInVain Gained first n before × Gained before (Some gain) last)

-- The program writes the command's bytes once, and then ends the stream.
pub record SendsCommand {Writer : Type 0} (Contents : Writer → Option (List ℕ)) (Ends : Writer → Writer → Type 0) (command : List ℕ) (old new : Writer) :
    Type 0 where
  pub written : Writer
  pub writes : Appends (Contents old) (Contents written) command
  pub ends : Ends written new

-- The bytes are an answer with this status and this text. Replacement characters take the place of
-- bytes that aren't valid UTF-8.
abbrev pub SpellsAnswer : List ℕ → ℕ → List ℕ → Type 0
SpellsAnswer bytes status text = (sent : List ℕ) × (bytes ≡ answer_bytes status sent) × (text ≡ utf8_lossy sent)

-- The bytes aren't a complete answer, or there is no memory for the answer's text.
abbrev pub IsNoAnswer : ErrorKind → Type 0
IsNoAnswer kind = (kind ≡ UnexpectedEof) ⊎ (kind ≡ OutOfMemory)

-- The program reads an answer up to the end of the stream. Replacement characters take the place of
-- bytes that aren't valid UTF-8.
pub record ReadsAnswer (left left' : Option (List ℕ)) (status : ℕ) (text : List ℕ) : Type 0 where
  pub bytes : List ℕ
  pub reads : Consumes left left' (answer_bytes status bytes)
  pub at_end : IsAtEnd left'
  pub is : text ≡ utf8_lossy bytes

-- A `Failing` describes a call that failed by three terms: the reader or writer before the call, the
-- kind of the error, and the reader or writer after the call.
abbrev pub Failing : Type 0 → Type 1
Failing End = End → ErrorKind → End → Type 0

-- The answer that nothing was done, or `None` if there is no memory for the answer's text.
abbrev pub IsNothingDoneOrNone : Option (ℕ × List ℕ) → Type 0
IsNothingDoneOrNone result = (result ≡ None) ⊎ (result ≡ Some (9, codes "nothing was done"))

-- The program's conclusion from a server's answer, or from the kind of an error. An answer is passed
-- on unchanged. If the server didn't read all of the command, nothing was done. After any other
-- error, it is unknown whether the server carried out the command.
abbrev pub Concludes : Result (ℕ × List ℕ) ErrorKind → Option (ℕ × List ℕ) → Type 0
Concludes (Ok answer) result = result ≡ Some answer
Concludes (Err kind) result = (IsLeftUnread kind × IsNothingDoneOrNone result) ⊎ (¬ IsLeftUnread kind × (result ≡ None))

module _ {Reader Writer : Type 0} (Left : Reader → Option (List ℕ)) (Contents : Writer → Option (List ℕ)) (Ends : Writer → Writer → Type 0)
    (ReadFails : Failing Reader) (WriteFails : Failing Writer) where
  -- The program sent a command and received no answer. The error has this kind.
  pub data LacksAnswer (command : List ℕ) (reader : Reader) (writer : Writer) (kind : ErrorKind) (reader' : Reader) (writer' : Writer) : Type 0 where
    -- Sending the command failed.
    unsent : WriteFails writer kind writer' → reader' ≡ reader → LacksAnswer command reader writer kind reader' writer'
    -- The command was sent, but ending the stream failed.
    unended : (sent : Writer) → Appends (Contents writer) (Contents sent) command → WriteFails sent kind writer' → reader' ≡ reader
        → LacksAnswer command reader writer kind reader' writer'
    -- The command was sent, but reading the answer failed.
    unread : SendsCommand Contents Ends command writer writer' → ReadFails reader kind reader' → LacksAnswer command reader writer kind reader' writer'
    -- The command was sent, but the bytes aren't a complete answer, or memory ran out.
    incomplete : SendsCommand Contents Ends command writer writer' → IsNoAnswer kind → LacksAnswer command reader writer kind reader' writer'

  -- The program sent a command. It received this answer, or failed with an error of this kind.
  abbrev pub Communicates : List ℕ → Reader → Writer → Result (ℕ × List ℕ) ErrorKind → Reader → Writer → Type 0
  Communicates command reader writer (Ok answer) reader' writer' =
      SendsCommand Contents Ends command writer writer' × ReadsAnswer (Left reader) (Left reader') answer.0 answer.1
  Communicates command reader writer (Err kind) reader' writer' = LacksAnswer command reader writer kind reader' writer'

  -- The program sent a command once, and drew this conclusion.
  pub record SendsOnce (command : List ℕ) (reader : Reader) (writer : Writer) (result : Option (ℕ × List ℕ)) (reader' : Reader) (writer' : Writer)
      : Type 0 where
    pub outcome : Result (ℕ × List ℕ) ErrorKind
    pub communicates : Communicates command reader writer outcome reader' writer'
    pub concludes : Concludes outcome result

  -- The program sent a command once over some reader and writer, and drew this conclusion.
  abbrev pub SendsOver : List ℕ → Option (ℕ × List ℕ) → Type 0
  SendsOver command result =
      (reader : Reader) × (writer : Writer) × (reader' : Reader) × (writer' : Writer) × SendsOnce command reader writer result reader' writer'

-- The result for a command that goes to a server, or to nobody. If nobody receives the command,
-- nothing was done. If a server is there, the relation `Sends` allows the result, or the result is
-- `None` because the socket's timeouts can't be set.
abbrev pub IsHandedTo : (Option (ℕ × List ℕ) → Type 0) → Bool → Option (ℕ × List ℕ) → Type 0
IsHandedTo Sends false result = IsNothingDoneOrNone result
IsHandedTo Sends true result = (result ≡ None) ⊎ Sends result

-- The effect of sending a command to the next server. The arguments are the servers before the
-- call, the command's bytes, the answer, and the servers after the call.
abbrev pub Handing : Type 0 → Type 1
Handing Servers = Servers → List ℕ → Option (ℕ × List ℕ) → Servers → Type 0

-- The status of the answer is 9. Status 9 means that no server has carried out the command.
abbrev pub IsNothingDone : Option (ℕ × List ℕ) → Type 0
IsNothingDone answer = IsSomeAnd answer (λ told. told.0 ≡ 9)

-- The program has sent the command any number of times, and each answer had status 9.
pub data IsHandedInVain {Servers : Type 0} (Hands : Handing Servers) (command : List ℕ) (first : Servers) : Servers → Type 0 where
  not_yet : IsHandedInVain Hands command first first
  once_more : (told : Option (ℕ × List ℕ)) (mid last : Servers) → IsHandedInVain Hands command first mid → Hands mid command told last
      → IsNothingDone told → IsHandedInVain Hands command first last

-- The program has sent the command and received this answer. All earlier answers had status 9.
pub record IsHandedOn {Servers : Type 0} (Hands : Handing Servers) (command : List ℕ) (first : Servers) (answer : Option (ℕ × List ℕ))
    (last : Servers) : Type 0 where
  pub mid : Servers
  pub in_vain : IsHandedInVain Hands command first mid
  pub hands : Hands mid command answer last
