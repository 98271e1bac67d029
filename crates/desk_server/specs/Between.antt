-- This file defines the calls of a reader that carries out commands while it waits for a client.
use Rattle.std.specs.Prelude.{◌≡◌, ℕ, List, Option}
use Rattle.club_clock.specs.Moments.{GivesMoment}
use Rattle.club_http.specs.Calls.{Call}
use Rattle.desk_server.specs.{Served.{CommandRelation, Meanwhile, Notes}, declared.between.Between.Between}

-- A relation `Wait` describes a wait by two terms: the reader before the wait and the reader after
-- the wait.
abbrev pub Wait : Type 0 → Type 1
Wait Reader = Reader → Reader → Type 0

-- Zero or more consecutive waits change the reader `old` to the new reader.
pub data AreWaits {Reader : Type 0} (Waits : Wait Reader) (old : Reader) : Reader → Type 0 where
  no_wait : AreWaits Waits old old
  wait_again : (mid new : Reader) → AreWaits Waits old mid → Waits mid new → AreWaits Waits old new

-- The reader waited zero or more times. After the waits, the reader was called once to fill a
-- buffer.
pub record Awaits {Reader : Type 0} (Waits : Wait Reader) (Fills : Call Reader) (old : Reader) (result : Option ℕ) (room : List ℕ) (new : Reader)
    : Type 0 where
  pub awaited : Reader
  pub waits : AreWaits Waits old awaited
  pub fills : Fills awaited result room new

-- The readers `old` and `new` borrow the same values. Only commands of the office changed the
-- borrowed clock, desk and log.
pub record CommandsAlone {R M D G : Type 0} (Gives : GivesMoment M) (Carries : CommandRelation D) (Begins : G → G → Type 0) (Noted : Notes G)
    (old new : Between R M D G) : Type 0 where
  pub same_reader : new.reader.ghost_name ≡ old.reader.ghost_name
  pub same_moments : new.moments.ghost_name ≡ old.moments.ghost_name
  pub same_desk : new.desk.ghost_name ≡ old.desk.ghost_name
  pub same_log : new.log.ghost_name ≡ old.log.ghost_name
  pub commands : Meanwhile Gives Carries Begins Noted old.moments.now old.desk.now old.log.now new.moments.now new.desk.now new.log.now
