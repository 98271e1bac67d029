-- Lemmas that make the trace of a server from what its connections did.
use Rattle.desk_server.specs.Served as served
use Rattle.desk_server.specs.Trace as trace
use Rattle.std.proofs.Common.{◌≡◌, ℕ, List, [], ◌∷◌, ◌++◌, map, Option, Some, None, Result, Ok, Err, inl, inr, refl, ap, sym, option_map}
use Rattle.std.proofs.lemmas.List.{map-append}
use Rattle.club_clock.specs.Moments.{GivesMoment}
use Rattle.club_core.specs.declared.reply.Reply.{Reply}
use Rattle.club_http.specs.{Exchange.AnswerRelation, declared.fault.AnswerFault.{AnswerFault, TheVariants.{Read, Write}}}
use Rattle.desk_server.specs.Served.{AreCommanded, CommandRelation, IsCarriedOut, IsExchanged}
use Rattle.desk_server.specs.Trace.{AnsweredCommand, AreCarriedOut, CarriesOutIfCame, IsWritten, OfficeConnection, RepliesIfRead, noted_connection}
use Rattle.desk_server.specs.declared.{log.LogEvent.LogEvent, office.Carried.Carried}

-- The desk's reply and what was written, for an exchange with this outcome.
pub record Replied {Desk : Type 0} (Answers : AnswerRelation Desk) (bytes : List ℕ) (old : Desk) (written : List ℕ) (outcome : Result Reply AnswerFault)
    (new : Desk) : Type 0 where
  pub reply : Option Reply
  pub replies : RepliesIfRead Answers bytes old reply new
  pub writes : IsWritten reply written outcome

pub replied : {Desk : Type 0} {Answers : AnswerRelation Desk} (bytes : List ℕ) {old : Desk} (written : List ℕ) (outcome : Result Reply AnswerFault)
    {new : Desk} → IsExchanged Answers bytes old written outcome new → Replied Answers bytes old written outcome new
replied bytes written (Ok reply) (replies, wrote) = record { reply = Some reply; replies = replies; writes = inl (refl, wrote) }
replied bytes written (Err Read) (kept, nothing) = record { reply = None; replies = kept; writes = (refl, nothing) }
replied bytes written (Err (Write n)) (reply, replies, fewer, wrote) =
    record { reply = Some reply; replies = replies; writes = inr (n, refl, fewer, wrote) }

-- The command of a connection, if a complete command came.
pub record Came {Desk : Type 0} (Carries : CommandRelation Desk) (old : Desk) (carried : Option Carried) (new : Desk) : Type 0 where
  pub command : Option AnsweredCommand
  pub carries : CarriesOutIfCame Carries old command new
  pub same : option_map (λ (command : AnsweredCommand). command.answer.carried) command ≡ carried

pub came : {Desk : Type 0} {Carries : CommandRelation Desk} {old : Desk} (carried : Option Carried) {new : Desk} → IsCarriedOut Carries old carried new
    → Came Carries old carried new
came None kept = record { command = None; carries = kept; same = refl }
came (Some carried) (bytes, answer, carries, is) =
    record { command = Some (record { bytes = bytes; answer = answer }); carries = carries; same = ap Some (sym is) }

module _ {Clock Desk : Type 0} (Gives : GivesMoment Clock) (Carries : CommandRelation Desk) where
  -- The connections whose commands the desk carried out, with their events.
  pub record Connections (clock : Clock) (desk : Desk) (events : List LogEvent) (clock' : Clock) (desk' : Desk) : Type 0 where
    pub connections : List OfficeConnection
    pub are : AreCarriedOut Gives Carries clock desk connections clock' desk'
    pub same : map noted_connection connections ≡ events

  pub connections_of : {clock : Clock} {desk : Desk} {events : List LogEvent} {clock' : Clock} {desk' : Desk}
      → AreCommanded Gives Carries clock desk events clock' desk' → Connections clock desk events clock' desk'
  connections_of served.no_command = record { connections = []; are = trace.no_connection; same = refl }
  connections_of (served.one_command events moment carried c d c' d' before gives is) =
      let so_far = connections_of before in
      let one : Came Carries d carried d' = came carried is in
      let connection : OfficeConnection = record { moment = moment; command = one.command } in
      record {
        connections = so_far.connections ++ connection ∷ [];
        are = trace.one_connection so_far.connections connection c d c' d' so_far.are gives one.carries;
        same = rw (map-append noted_connection so_far.connections (connection ∷ []), so_far.same, one.same) refl;
      }
