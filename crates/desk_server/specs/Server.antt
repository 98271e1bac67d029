-- This file defines the effect of a server on its arrivals, its clock, its desk and its log. It
-- also defines the types of the relations for opening, reaching and closing databases by name.
use Rattle.std.specs.{Prelude.{ℕ, List, Option, Some, None, Result, String, length}, String.string_bytes}
use Rattle.club_clock.specs.Moments.{GivesMoment}
use Rattle.club_core.specs.declared.store.StoreFault.{StoreFault}
use Rattle.club_http.specs.Exchange.{AnswerRelation}
use Rattle.desk_server.specs.{Served.{AreNoted, CommandRelation, CountsOn, Ends, IsCarriedOut, Notes}, Trace.{Serves, turns_of}}
use Rattle.desk_server.specs.declared.databases.Reached.{Reached}
use Rattle.desk_server.specs.declared.{log.LogEvent.TheVariants.Commanded, office.Carried.Carried, serve.ClockOutOfRange.ClockOutOfRange}

-- An `Opening` describes a call of `open` by four terms: the databases before the call, the name,
-- the result, and the databases after the call.
abbrev pub Opening : Type 0 → Type 0 → Type 1
Opening Databases Store = Databases → List ℕ → Result Store StoreFault → Databases → Type 0

-- A `Closing` describes a call of `close` by three terms: the databases before the call, the store,
-- and the databases after the call.
abbrev pub Closing : Type 0 → Type 0 → Type 1
Closing Databases Store = Databases → Store → Databases → Type 0

-- A `Reaching` describes a call of `reach` by four terms: the databases before the call, the name,
-- the result, and the databases after the call. The result of reaching a database is an opened
-- store, a server that takes commands, or a fault.
abbrev pub Reaching : Type 0 → Type 0 → Type 0 → Type 1
Reaching Databases Store Visit = Databases → List ℕ → Result (Reached Store Visit) StoreFault → Databases → Type 0

-- A `Giving` describes a call of `give` by three terms: a server, the bytes of a command, and the
-- answer. An answer is an exit status with the bytes of a text. The answer is `None` if the server
-- doesn't answer.
abbrev pub Giving : Type 0 → Type 1
Giving Visit = Visit → List ℕ → Option (ℕ × List ℕ) → Type 0

-- The given answer, with its text as a list of bytes.
abbrev pub in_bytes : {Z : Type 0} → Option (ℕ × String Z) → Option (ℕ × List ℕ)
in_bytes None = None
in_bytes (Some answer) = Some (answer.0, string_bytes answer.1)

module _ {Clock Desk Log : Type 0} (Gives : GivesMoment Clock) (Begins : Log → Log → Type 0) (Noted : Notes Log) where
  -- The effect of a connection of the office. The desk carries out the office's command if the
  -- command is complete. The log notes the command's beginning and the command's event. The event
  -- has the clock's moment.
  abbrev pub IsCommanded : CommandRelation Desk → Clock → Desk → Log → Clock → Desk → Log → Type 0
  IsCommanded Carries clock desk log clock' desk' log' =
      (moment : Option ℕ) × (carried : Option Carried) × (begun : Log) × Begins log begun × Noted begun (Commanded moment carried) log'
      × Gives clock moment clock' × IsCarriedOut Carries desk carried desk'

  -- The effect of a server that serves up to `count` clients from a source of arrivals. The source
  -- counts each wait for an arrival, and the log notes each turn.
  abbrev pub ServesLogged : {Source : Type 0} → (ℕ → AnswerRelation Desk) → CommandRelation Desk → Ends → (Source → ℕ) → (Source → ℕ) → ℕ
      → Source → Clock → Desk → Log → Result Unit ClockOutOfRange → Source → Clock → Desk → Log → Type 0
  ServesLogged Answers Carries Ended waited failures count source clock desk log result source' clock' desk' log' =
      Serves Gives Answers Carries Ended count clock desk (failures source) result clock' desk' (failures source')
      (λ all. CountsOn (waited source) (length all) (waited source') × AreNoted Begins Noted log (turns_of all) log')

module _ {Clock Desk : Type 0} (Gives : GivesMoment Clock) where
  -- The effect of a server without a log. The server serves up to `count` clients from a source of
  -- arrivals.
  abbrev pub ServesOn : {Source : Type 0} → (ℕ → AnswerRelation Desk) → CommandRelation Desk → Ends → (Source → ℕ) → (Source → ℕ) → ℕ
      → Source → Clock → Desk → Result Unit ClockOutOfRange → Source → Clock → Desk → Type 0
  ServesOn Answers Carries Ended waited failures count source clock desk result source' clock' desk' =
      Serves Gives Answers Carries Ended count clock desk (failures source) result clock' desk' (failures source')
      (λ all. CountsOn (waited source) (length all) (waited source'))
