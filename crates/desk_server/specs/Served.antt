-- This file defines the effect of a server. The server serves clients and commands of the office
-- one after the other. While the server waits for a client's request, it also carries out commands.
use Rattle.std.specs.{Io.KnownBytes.Appends, Prelude.{◌≡◌, ℕ, ◌+◌, ◌^◌, ◌<◌, List, [], ◌∷◌, ◌++◌, take, Option, Some, None, IfSome, Result}}
use Rattle.std.specs.{String.string_bytes}
use Rattle.club_clock.specs.Moments.{GivesMoment}
use Rattle.club_core.specs.declared.reply.Reply.{Reply}
use Rattle.club_http.specs.{Exchange.{Exchanges, AnswerRelation, IsReplied}, declared.fault.AnswerFault.AnswerFault}
use Rattle.desk_server.specs.declared.{log.LogEvent.{LogEvent, TheVariants.{Absent, Overrun, Commanded}}, office.Answer.Answer}
use Rattle.desk_server.specs.declared.{office.Carried.Carried}

-- A counter that starts at `count` grows by `more`, unless the sum overflows a u64.
abbrev pub CountsOn : ℕ → ℕ → ℕ → Type 0
CountsOn count more count' = count + more < 2 ^ 64 → count' ≡ count + more

-- A `CommandRelation` describes a command by four terms: the command's bytes, the desk before the
-- command, the answer, and the desk after the command.
abbrev pub CommandRelation : Type 0 → Type 1
CommandRelation Desk = List ℕ → Desk → Answer → Desk → Type 0

-- A relation `Talk` describes an exchange with a connection by five terms:
--
-- - the connection before the exchange
-- - the bytes read
-- - the bytes written
-- - the outcome
-- - the connection after the exchange
abbrev pub Talk : Type 0 → Type 1
Talk Client = Client → List ℕ → List ℕ → Result Reply AnswerFault → Client → Type 0

-- A relation `Ends` describes an exchange by three terms: the bytes read, the bytes written, and
-- the outcome.
abbrev pub Ends : Type 1
Ends = List ℕ → List ℕ → Result Reply AnswerFault → Type 0

-- For some connection, an exchange may read and write the given bytes and have the given outcome.
abbrev pub HasTalked : {Client : Type 0} → Talk Client → Ends
HasTalked {Client} Talks bytes written outcome = (old : Client) × (new : Client) × Talks old bytes written outcome new

-- The effect that an exchange with a given outcome has on the desk.
--
-- - If the exchange succeeded, the desk gave the reply to the bytes read, and the exchange wrote
--   exactly the reply's text.
-- - If the outcome is the fault `Write n`, the desk still gave a reply, but the exchange wrote only
--   the first `n` bytes of the reply's text.
-- - If the reader failed, the desk is unchanged, and the exchange wrote nothing.
abbrev pub IsExchanged : {Desk : Type 0} → AnswerRelation Desk → List ℕ → Desk → List ℕ → Result Reply AnswerFault → Desk → Type 0
IsExchanged Answers bytes old written outcome new = Exchanges (record {
  decides = λ reply. IsReplied Answers bytes old reply new;
  unasked = (new ≡ old) × (written ≡ []);
  writes = λ text. written ≡ text;
}) outcome

-- The effect that a connection of the office has on the desk. If a complete command came, the desk
-- carried out the command exactly once, even if the office didn't read the answer. If no complete
-- command came, the desk is unchanged.
abbrev pub IsCarriedOut : {Desk : Type 0} → CommandRelation Desk → Desk → Option Carried → Desk → Type 0
IsCarriedOut Carries old None new = new ≡ old
IsCarriedOut Carries old (Some carried) new =
    (bytes : List ℕ) × (answer : Answer) × Carries bytes old answer new × (carried ≡ answer.carried)

-- The bytes of an answer: the status, the text, and a zero byte. The text of an answer has no zero
-- byte.
abbrev pub answer_bytes : ℕ → List ℕ → List ℕ
answer_bytes status text = status ∷ text ++ 0 ∷ []

-- The desk carried out a command, and the server wrote the command's answer or a prefix of the
-- answer.
pub record AnswersCommand {Desk : Type 0} (Carries : CommandRelation Desk) (bytes : List ℕ) (old : Desk) (taken : Option (List ℕ)) (carried : Carried)
    (new : Desk) (taken' : Option (List ℕ)) : Type 0 where
  pub answer : Answer
  pub carries : Carries bytes old answer new
  pub same : carried ≡ answer.carried
  pub writes : (n : ℕ) × Appends taken taken' (take n (answer_bytes answer.carried.status (string_bytes answer.text)))

-- A turn of the server. The field `event` is the event that ends the turn. The field `meanwhile`
-- has the events of the commands that came while the server waited for a client's request.
pub record Turn : Type 0 where
  pub meanwhile : List LogEvent
  pub event : LogEvent

-- The events of the turns, in the order in which the log notes them. In each turn, the field
-- `event` comes after the events in `meanwhile`.
abbrev pub events_in : List Turn → List LogEvent
events_in [] = []
events_in (turn ∷ turns) = (turn.meanwhile ++ turn.event ∷ []) ++ events_in turns

module _ {Clock Desk : Type 0} (Gives : GivesMoment Clock) (Carries : CommandRelation Desk) where
  -- The desk carried out consecutive commands. The desk carried out a command even if the clock
  -- gave no moment for the command.
  pub data AreCommanded (clock : Clock) (desk : Desk) : List LogEvent → Clock → Desk → Type 0 where
    no_command : AreCommanded clock desk [] clock desk
    one_command : (events : List LogEvent) (moment : Option ℕ) (carried : Option Carried) (c : Clock) (d : Desk) (c' : Clock) (d' : Desk)
        → AreCommanded clock desk events c d → Gives c moment c' → IsCarriedOut Carries d carried d'
        → AreCommanded clock desk (events ++ Commanded moment carried ∷ []) c' d'

-- A relation `Notes` describes a call of `note` by three terms: the log before the call, the event,
-- and the log after the call.
abbrev pub Notes : Type 0 → Type 1
Notes Log = Log → LogEvent → Log → Type 0

module _ {Log : Type 0} (Begins : Log → Log → Type 0) (Noted : Notes Log) where
  -- For each command during a turn, the log notes the command's beginning, and then the command's
  -- event. The log notes the commands in order.
  pub data AreNotedMeanwhile (log : Log) : List LogEvent → Log → Type 0 where
    no_note : AreNotedMeanwhile log [] log
    one_note : (events : List LogEvent) (event : LogEvent) (l begun l' : Log) → AreNotedMeanwhile log events l → Begins l begun → Noted begun event l'
        → AreNotedMeanwhile log (events ++ event ∷ []) l'

  -- If the server accepted a client or a command, the log notes that the turn begins. If the server
  -- accepted nothing, the log is unchanged.
  abbrev pub IsBegun : Log → LogEvent → Log → Type 0
  IsBegun log Absent begun = begun ≡ log
  IsBegun log Overrun begun = begun ≡ log
  IsBegun log event begun = Begins log begun

  -- The effect of a turn on the log. If the server accepted a client or a command, the log first
  -- notes that the turn begins. Then, for each command during the turn, the log notes that the
  -- command begins, and later the command's event. At the end of the turn, the log notes the turn's
  -- own event.
  pub record IsNoted (log : Log) (turn : Turn) (log' : Log) : Type 0 where
    pub begun : Log
    pub awaited : Log
    pub begins : IsBegun log turn.event begun
    pub meanwhile : AreNotedMeanwhile begun turn.meanwhile awaited
    pub notes : Noted awaited turn.event log'

  -- The log notes all of the given turns, in order.
  pub data AreNoted (log : Log) : List Turn → Log → Type 0 where
    nothing : AreNoted log [] log
    one_noted : (turns : List Turn) (turn : Turn) (l l' : Log) → AreNoted log turns l → IsNoted l turn l' → AreNoted log (turns ++ turn ∷ []) l'

module _ {Clock Desk Log : Type 0} (Gives : GivesMoment Clock) (Carries : CommandRelation Desk) (Begins : Log → Log → Type 0) (Noted : Notes Log) where
  -- The desk carried out the commands that came during a turn, and the log noted them, in order.
  pub record Meanwhile (clock : Clock) (desk : Desk) (log : Log) (clock' : Clock) (desk' : Desk) (log' : Log) : Type 0 where
    pub events : List LogEvent
    pub commanded : AreCommanded Gives Carries clock desk events clock' desk'
    pub noted : AreNotedMeanwhile Begins Noted log events log'

  -- The effect of an exchange. While the server waited for the request, the desk carried out
  -- commands, and the log noted the commands. After the commands, the exchange with the desk took
  -- place.
  pub record ExchangesBetween {Client : Type 0} (Answers : AnswerRelation Desk) (ToCome : Client → Option (List ℕ)) (Talks : Talk Client)
      (bytes : List ℕ) (clock : Clock) (desk : Desk) (log : Log) (client : Client) (outcome : Result Reply AnswerFault) (clock' : Clock)
      (desk' : Desk) (log' : Log) (client' : Client) : Type 0 where
    pub left : Desk
    pub written : List ℕ
    pub meanwhile : Meanwhile clock desk log clock' left log'
    pub exchanged : IsExchanged Answers bytes left written outcome desk'
    -- The exchange would have the same effect if the server read all bytes that the client will
    -- ever send.
    pub to_all : IfSome (ToCome client) (λ all. IsExchanged Answers all left written outcome desk')
    pub talked : Talks client bytes written outcome client'
