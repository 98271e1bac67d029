-- This file defines a trace of a server. A trace has all that happened in each turn, with the bytes
-- that were read and written. The log's events are a projection of a trace.
use Rattle.std.specs.Prelude.{◌≡◌, ℕ, suc, ◌+◌, ◌^◌, ◌<◌, ◌≤◌, ◌⊎◌, length, List, [], ◌∷◌, ◌++◌, map, take, Option, Some, None, option_map, Result, Ok, Err}
use Rattle.std.specs.Prelude.{MatchResult}
use Rattle.club_clock.specs.Moments.{GivesMoment}
use Rattle.club_core.specs.declared.reply.Reply.{Reply}
use Rattle.club_http.specs.{Exchange.{one_more, AnswerRelation, IsReplied}, declared.fault.AnswerFault.{AnswerFault, TheVariants.{Read, Write}}}
use Rattle.desk_server.specs.{Served.{CommandRelation, Ends, Turn}, declared.{log.LogEvent.LogEvent, office.Answer.Answer}}
use Rattle.desk_server.specs.declared.serve.ClockOutOfRange.{ClockOutOfRange}
use Rattle.desk_server.specs.declared.log.LogEvent.TheVariants.{Absent, Overrun, Unanswered, Exchanged, Commanded}
use Rattle.http_response.specs.Text.{reply_text}

-- A complete command of the office: the bytes that came, and the desk's answer.
pub record AnsweredCommand : Type 0 where
  pub bytes : List ℕ
  pub answer : Answer

-- A connection of the office: the clock's moment, and the command, if a complete command came.
pub record OfficeConnection : Type 0 where
  pub moment : Option ℕ
  pub command : Option AnsweredCommand

-- An exchange with a client. The field `bytes` has all bytes read for the request. The field
-- `reply` has the desk's reply, even if the writer failed. If the reader failed, there is no reply.
pub record ClientExchange : Type 0 where
  pub moment : ℕ
  pub bytes : List ℕ
  pub reply : Option Reply
  pub written : List ℕ
  pub outcome : Result Reply AnswerFault

-- What ends a turn:
--
-- - `nobody`: waiting for a connection failed
-- - `overrun`: the count of commands was full
-- - `unanswered`: a client got no reply, because the clock failed
-- - `from_office`: the office's connection
-- - `from_client`: the exchange with a client
pub data Ending : Type 0 where
  nobody : Ending
  overrun : Ending
  unanswered : Ending
  from_office : OfficeConnection → Ending
  from_client : ClientExchange → Ending

-- A turn of the server. The field `meanwhile` has the office's connections that came while the
-- server waited for a client's request.
pub record TracedTurn : Type 0 where
  pub meanwhile : List OfficeConnection
  pub ending : Ending

abbrev pub Trace : Type 0
Trace = List TracedTurn

-- The log's event for a connection of the office.
abbrev pub noted_connection : OfficeConnection → LogEvent
noted_connection connection = Commanded connection.moment (option_map (λ (command : AnsweredCommand). command.answer.carried) connection.command)

-- The log's event for the end of a turn. The log has only the first 96 bytes of a request.
abbrev pub noted : Ending → LogEvent
noted nobody = Absent
noted overrun = Overrun
noted unanswered = Unanswered
noted (from_office connection) = noted_connection connection
noted (from_client exchange) = Exchanged exchange.moment (take 96 exchange.bytes) exchange.outcome

-- The turns that the log notes for a trace.
abbrev pub turn_of : TracedTurn → Turn
turn_of turn = record { meanwhile = map noted_connection turn.meanwhile; event = noted turn.ending }

abbrev pub turns_of : Trace → List Turn
turns_of trace = map turn_of trace

-- The turn with the given ending, during which no other connections came.
abbrev pub turn_alone : Ending → TracedTurn
turn_alone ending = record { meanwhile = []; ending = ending }

-- All that happened in a trace, in order. The connections of the office that came while the server
-- waited for a client's request stand before the client's exchange.
abbrev pub happened : Trace → List Ending
happened [] = []
happened (turn ∷ trace) = (map from_office turn.meanwhile ++ turn.ending ∷ []) ++ happened trace

-- The number of clients that the server counts for the end of a turn: 0 for a connection of the
-- office, otherwise 1.
abbrev pub client_in : Ending → ℕ
client_in (from_office connection) = 0
client_in ending = 1

-- The number of clients that the server counts for a trace.
abbrev pub clients_in : Trace → ℕ
clients_in [] = 0
clients_in (turn ∷ trace) = client_in turn.ending + clients_in trace

-- The count of commands is full only after at least 2 ^ 64 - 1 turns.
abbrev pub IsDue : Trace → Ending → Type 0
IsDue trace overrun = 2 ^ 64 ≤ suc (length trace)
IsDue trace ending = Unit {0}

-- The written bytes and the outcome of an exchange with this reply. The exchange wrote the reply's
-- text, or failed after a prefix of the text. Without a reply, the exchange wrote nothing.
abbrev pub IsWritten : Option Reply → List ℕ → Result Reply AnswerFault → Type 0
IsWritten None written outcome = (outcome ≡ Err Read) × (written ≡ [])
IsWritten (Some reply) written outcome =
    ((outcome ≡ Ok reply) × (written ≡ reply_text reply))
    ⊎ ((n : ℕ) × (outcome ≡ Err (Write n)) × (n < length (reply_text reply)) × (written ≡ take n (reply_text reply)))

-- The desk gave this reply to the bytes. Without a reply, the desk is unchanged.
abbrev pub RepliesIfRead : {Desk : Type 0} → AnswerRelation Desk → List ℕ → Desk → Option Reply → Desk → Type 0
RepliesIfRead Answers bytes old None new = new ≡ old
RepliesIfRead Answers bytes old (Some reply) new = IsReplied Answers bytes old reply new

-- The desk carried out the command exactly once, even if the office didn't read the answer. If no
-- complete command came, the desk is unchanged.
abbrev pub CarriesOutIfCame : {Desk : Type 0} → CommandRelation Desk → Desk → Option AnsweredCommand → Desk → Type 0
CarriesOutIfCame Carries old None new = new ≡ old
CarriesOutIfCame Carries old (Some command) new = Carries command.bytes old command.answer new

module _ {Clock Desk : Type 0} (Gives : GivesMoment Clock) (Carries : CommandRelation Desk) where
  -- The desk carried out the commands of consecutive connections. The desk carried out a command
  -- even if the clock gave no moment for the command.
  pub data AreCarriedOut (clock : Clock) (desk : Desk) : List OfficeConnection → Clock → Desk → Type 0 where
    no_connection : AreCarriedOut clock desk [] clock desk
    one_connection : (connections : List OfficeConnection) (connection : OfficeConnection) (c : Clock) (d : Desk) (c' : Clock) (d' : Desk)
        → AreCarriedOut clock desk connections c d → Gives c connection.moment c' → CarriesOutIfCame Carries d connection.command d'
        → AreCarriedOut clock desk (connections ++ connection ∷ []) c' d'

module _ {Desk : Type 0} (Answers : ℕ → AnswerRelation Desk) (Carries : CommandRelation Desk) where
  -- The effect on the desk of one thing that happened.
  abbrev pub ServesEnding : Desk → Ending → Desk → Type 0
  ServesEnding desk (from_client exchange) desk' = RepliesIfRead (Answers exchange.moment) exchange.bytes desk exchange.reply desk'
  ServesEnding desk (from_office connection) desk' = CarriesOutIfCame Carries desk connection.command desk'
  ServesEnding desk ending desk' = desk' ≡ desk

  -- The effect on the desk of all that happened, in order.
  pub data ServesEndings (desk : Desk) : List Ending → Desk → Type 0 where
    no_ending : ServesEndings desk [] desk
    one_ending : (endings : List Ending) (ending : Ending) (d d' : Desk) → ServesEndings desk endings d → ServesEnding d ending d'
        → ServesEndings desk (endings ++ ending ∷ []) d'

module _ {Clock Desk : Type 0} (Gives : GivesMoment Clock) (Answers : ℕ → AnswerRelation Desk) (Carries : CommandRelation Desk) (Ended : Ends) where
  -- The effect of a client on the clock and the desk. The clock first gave the client's moment.
  -- While the server waited for the client's request, the desk carried out commands, each at its
  -- own moment. After the commands, the client's exchange took place. The relation `Ended` allows
  -- the bytes and the outcome of this exchange.
  pub record AttendsClient (meanwhile : List OfficeConnection) (exchange : ClientExchange) (clock : Clock) (desk : Desk) (clock' : Clock)
      (desk' : Desk) : Type 0 where
    pub given : Clock
    pub left : Desk
    pub gives : Gives clock (Some exchange.moment) given
    pub carried_out : AreCarriedOut Gives Carries given desk meanwhile clock' left
    pub replies : RepliesIfRead (Answers exchange.moment) exchange.bytes left exchange.reply desk'
    pub writes : IsWritten exchange.reply exchange.written exchange.outcome
    pub ended : Ended exchange.bytes exchange.written exchange.outcome

  -- The effect of one turn on the clock, the desk and the count of failed waits.
  --
  -- - If waiting failed, only the count grew.
  -- - A command is carried out even if the clock gives no moment.
  -- - Commands can interrupt only a client's turn.
  -- - If the count of commands is full, nothing changed.
  abbrev pub TakesTurn : Clock → Desk → ℕ → List OfficeConnection → Ending → Clock → Desk → ℕ → Type 0
  TakesTurn clock desk failures meanwhile nobody clock' desk' failures' =
      (meanwhile ≡ []) × (failures' ≡ one_more failures) × (clock' ≡ clock) × (desk' ≡ desk)
  TakesTurn clock desk failures meanwhile overrun clock' desk' failures' =
      (meanwhile ≡ []) × (failures' ≡ failures) × (clock' ≡ clock) × (desk' ≡ desk)
  TakesTurn clock desk failures meanwhile (from_client exchange) clock' desk' failures' =
      (failures' ≡ failures) × AttendsClient meanwhile exchange clock desk clock' desk'
  TakesTurn clock desk failures meanwhile (from_office connection) clock' desk' failures' =
      (meanwhile ≡ []) × (failures' ≡ failures) × Gives clock connection.moment clock' × CarriesOutIfCame Carries desk connection.command desk'
  TakesTurn clock desk failures meanwhile unanswered clock' desk' failures' = ⊥

  -- The server took the turns of the trace one after the other.
  pub data IsTraced (clock : Clock) (desk : Desk) (failures : ℕ) : Trace → Clock → Desk → ℕ → Type 0 where
    no_turn : IsTraced clock desk failures [] clock desk failures
    one_turn : (trace : Trace) (turn : TracedTurn) (c : Clock) (d : Desk) (f : ℕ) (c' : Clock) (d' : Desk) (f' : ℕ)
        → IsTraced clock desk failures trace c d f → IsDue trace turn.ending → TakesTurn c d f turn.meanwhile turn.ending c' d' f'
        → IsTraced clock desk failures (trace ++ turn ∷ []) c' d' f'

  -- The effect of a server for `count` clients. The server served all `count` clients, or stopped
  -- because the clock failed. The list `all` has all turns of the server. If the clock failed, the
  -- last turn in `all` ends with `unanswered`.
  pub record ServesTrace (all : Trace) (count : ℕ) (clock : Clock) (desk : Desk) (failures : ℕ) (outcome : Result Unit ClockOutOfRange)
      (clock' : Clock) (desk' : Desk) (failures' : ℕ) : Type 0 where
    pub served : Trace
    pub last : Clock
    pub before : IsTraced clock desk failures served last desk' failures'
    pub ends : MatchResult outcome
        (λ done. (clients_in served ≡ count) × (clock' ≡ last) × (all ≡ served))
        (λ stopped. (clients_in served < count) × Gives last None clock' × (all ≡ served ++ turn_alone unanswered ∷ []))

  -- The effect of a server for `count` clients. The server's trace also has the property `Besides`.
  pub record Serves (count : ℕ) (clock : Clock) (desk : Desk) (failures : ℕ) (outcome : Result Unit ClockOutOfRange) (clock' : Clock) (desk' : Desk)
      (failures' : ℕ) (Besides : Trace → Type 0) : Type 0 where
    pub all : Trace
    pub serves : ServesTrace all count clock desk failures outcome clock' desk' failures'
    pub besides : Besides all
