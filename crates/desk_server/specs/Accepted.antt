-- This file defines the effects of calls on an accepted connection with time limits.
use Rattle.std.specs.{Duration.as_nanos, Io.KnownBytes.{Appends, Keeps}, Prelude.{◌≡◌, ℕ, List, Option, IsSomeAnd, Result, Ok, Err}}
use Rattle.club_core.specs.declared.reply.Reply.{Reply}
use Rattle.club_http.specs.{Calls.{ArePut, ReadsNoFurther}, Exchange.{reader_failures, writer_failures, IsCutOff, Receives}}
use Rattle.club_http.specs.declared.fault.AnswerFault.{AnswerFault, TheVariants.{Read, Write}}
use Rattle.desk_server.specs.{Between.Awaits, Limits.{Calls, IsCalledUnder, StartsLimit, TakesAtMost}, declared.timed.Accepted.Accepted}
use Rattle.http_request.specs.Frame.{IsOneRequest}

-- The connection `new` differs from the connection `old` at most in its stream.
abbrev pub HasMoved : {S C : Type 0} → Accepted S C → Accepted S C → Type 0
HasMoved old new = new ≡ record old { stream = new.stream }

module _ {S C : Type 0} (Shows : C → Option ℕ → Type 0) (Does : Calls S) (kept : S → Option (List ℕ)) where
  -- The effect of a read under the connection's time limit for reads. Once the time limit for reads
  -- is over, a read doesn't wait. A read writes no bytes to the stream.
  pub record IsRead (old : Accepted S C) (result : Option ℕ) (room : List ℕ) (new : Accepted S C) : Type 0 where
    pub same : new ≡ record old { stream = new.stream; read_failures = new.read_failures }
    pub limited : IsCalledUnder Shows Does old.reading old.stream result new.stream
    pub writes_nothing : Keeps (kept old.stream) (kept new.stream)

  -- The effect of a write under the connection's time limit for writes. The time limit for writes
  -- starts with the connection's first write. Once the time limit for writes is over, a write
  -- doesn't wait. A write reads no bytes from the stream.
  pub record IsWritten (old : Accepted S C) (result : Option ℕ) (bytes : List ℕ) (new : Accepted S C) : Type 0 where
    pub same : new ≡ record old { stream = new.stream; writing = new.writing; write_failures = new.write_failures }
    pub begins : StartsLimit Shows old.clock.now (as_nanos old.patience) old.writing new.writing
    pub limited : IsSomeAnd new.writing (λ limit. IsCalledUnder Shows Does limit old.stream result new.stream)
    pub reads_nothing : Keeps (kept old.stream) (kept new.stream)

module _ {S C : Type 0} (to_come taken : S → Option (List ℕ)) where
  -- The effect of a wait for a command or for the client. While the server waits, it reads no bytes
  -- from the stream and writes none.
  pub record HasWaited (old new : Accepted S C) : Type 0 where
    pub same : new ≡ record old { stream = new.stream; command_first = new.command_first }
    pub reads_nothing : Keeps (to_come old.stream) (to_come new.stream)
    pub writes_nothing : Keeps (taken old.stream) (taken new.stream)

  -- The server read at most 65,536 more bytes from the client, and wrote no bytes.
  pub record TakesRest (old new : Accepted S C) : Type 0 where
    pub same : HasMoved old new
    pub bytes : TakesAtMost 65_536 (to_come old.stream) (to_come new.stream)
    pub writes_nothing : Keeps (taken old.stream) (taken new.stream)

  -- If no read failed, `bytes` are the bytes received for a request. If a read failed, `bytes` are
  -- the bytes that came before the failure.
  abbrev pub Comes : Result Reply AnswerFault → Accepted S C → List ℕ → Accepted S C → Type 0
  Comes (Ok reply) old bytes new = Receives (to_come old.stream) (to_come new.stream) bytes
  Comes (Err (Write n)) old bytes new = Receives (to_come old.stream) (to_come new.stream) bytes
  Comes (Err Read) old bytes new = IsCutOff (to_come old.stream) (to_come new.stream) bytes

  -- The effect of ending a connection. After a completely written reply, the server may read bytes
  -- that the client still sends. If the bytes read so far were exactly one request, the server
  -- reads nothing more. After a fault the server reads nothing.
  abbrev pub IsEnded : Result Reply AnswerFault → List ℕ → Accepted S C → Accepted S C → Type 0
  IsEnded (Ok reply) bytes old new = (IsOneRequest bytes → new ≡ old) × TakesRest old new
  IsEnded (Err fault) bytes old new = new ≡ old

  module _ (Shows : C → Option ℕ → Type 0) (Reads Writes : Calls S) where
    -- The course of an exchange. First, the server read bytes, at most until the request was
    -- complete. Then the server wrote exactly the bytes `written`. Last, the server ended the
    -- connection.
    pub record Talks (old : Accepted S C) (bytes written : List ℕ) (outcome : Result Reply AnswerFault) (new : Accepted S C) : Type 0 where
      pub heard : Accepted S C
      pub sent : Accepted S C
      pub reads : ReadsNoFurther (Awaits HasWaited (IsRead Shows Reads taken)) old bytes heard
      pub came : Comes outcome old bytes heard
      pub puts : ArePut (IsWritten Shows Writes to_come) heard sent
      pub ended : IsEnded outcome bytes sent new
      pub writes : Appends (taken old.stream) (taken new.stream) written
      pub failed_reads : new.read_failures ≡ reader_failures old.read_failures outcome
      pub failed_writes : new.write_failures ≡ writer_failures old.write_failures outcome
