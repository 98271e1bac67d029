-- This file defines time limits, and calls of a stream under a time limit.
use Rattle.std.specs.{Io.KnownBytes.Consumes, Prelude.{◌≡◌, ◌⊎◌, ℕ, ◌+◌, ◌-◌, ◌*◌, ◌^◌, ◌≤◌, nat_lt, if◌then◌else◌, List, length, Option, Some, None, IfSome}}
use Rattle.std.specs.{Prelude.{IsSomeAnd, option_map}, Time.instant_nanos, declared.time.Instant.Instant}
use Rattle.desk_server.specs.declared.{limit.Limit.Limit, timed.Waited.{Waited, TheVariants.{Moved, Interrupted, Failed}}}

-- The nanoseconds from the start of the clock to the instant.
abbrev pub nanos_of : Option Instant → Option ℕ
nanos_of instant = option_map instant_nanos instant

-- The given time of a clock plus `patience`, in nanoseconds. The sum is `None` if the clock can't
-- be read, or if the clock can't represent the sum.
abbrev pub due_after : ℕ → Option ℕ → Option ℕ
due_after patience None = None
due_after patience (Some now) = if nat_lt (now + patience) (2 ^ 63 * 1_000_000_000) then Some (now + patience) else None

-- The nanoseconds until a deadline. The time left is 0 if the deadline has passed, if there is no
-- deadline, or if the clock can't be read.
abbrev pub left_until : Option ℕ → Option ℕ → ℕ
left_until (Some due) (Some now) = due - now
left_until due now = 0

-- The clock may show a time that satisfies the predicate `P`.
abbrev pub AtShown : (Option ℕ → Type 0) → (Option ℕ → Type 0) → Type 0
AtShown Shows P = (shown : Option ℕ) × Shows shown × P shown

-- The effect of a call on a time limit that starts with the first call. If the time limit has
-- already started, the call leaves it unchanged. The first call sets the deadline to `patience`
-- nanoseconds after that call.
abbrev pub StartsLimit : {C : Type 0} → (C → Option ℕ → Type 0) → C → ℕ → Option (Limit C) → Option (Limit C) → Type 0
StartsLimit Shows clock patience (Some limit) new = new ≡ Some limit
StartsLimit Shows clock patience None new = IsSomeAnd new (λ limit. (limit.clock.now ≡ clock)
    × AtShown (Shows clock) (λ shown. nanos_of limit.due ≡ due_after patience shown))

-- A `Calls` relation describes a call of a stream. The four terms are the stream before the call,
-- the longest allowed wait in nanoseconds, the result, and the stream after the call.
abbrev pub Calls : Type 0 → Type 1
Calls Stream = Stream → ℕ → Waited → Stream → Type 0

-- The number of bytes that a call read or wrote. The number is `None` if a signal interrupted the
-- call, or if the call failed.
abbrev pub moved : Waited → Option ℕ
moved (Moved n) = Some n
moved Interrupted = None
moved Failed = None

-- The result of a call that no signal interrupted.
abbrev pub ended : Option ℕ → Waited
ended (Some n) = Moved n
ended None = Failed

-- The effect of a call that may wait for `left` nanoseconds, and that no signal interrupts. If
-- `left` is 0, the call is still made, but doesn't wait.
abbrev pub IsCalled : {Stream : Type 0} → Calls Stream → ℕ → Stream → Option ℕ → Stream → Type 0
IsCalled Does left old result new = Does old left (ended result) new

-- Signals interrupted a given number of consecutive calls. Each call could wait until the limit's
-- deadline. The time until the deadline is measured from a time that the limit's clock may show.
pub data AreInterrupted {C Stream : Type 0} (Shows : C → Option ℕ → Type 0) (Does : Calls Stream) (limit : Limit C) (first : Stream) : ℕ → Stream → Type 0 where
  not_called : AreInterrupted Shows Does limit first 0 first
  once_more : (n : ℕ) (old new : Stream) → AreInterrupted Shows Does limit first n old
      → AtShown (Shows limit.clock.now) (λ shown. Does old (left_until (nanos_of limit.due) shown) Interrupted new)
      → AreInterrupted Shows Does limit first (n + 1) new

-- The effect of a call that may wait until the deadline of a limit. If a signal interrupts the
-- call, the call is repeated with the time that is left. After 2 ^ 64 - 1 interruptions, the result
-- may be `None` without another call.
pub record IsCalledUnder {C Stream : Type 0} (Shows : C → Option ℕ → Type 0) (Does : Calls Stream) (limit : Limit C) (old : Stream) (result : Option ℕ)
    (new : Stream) : Type 0 where
  pub interruptions : ℕ
  pub last : Stream
  pub repeated : AreInterrupted Shows Does limit old interruptions last
  pub called : AtShown (Shows limit.clock.now) (λ shown. IsCalled Does (left_until (nanos_of limit.due) shown) last result new)
      ⊎ (interruptions ≡ 2 ^ 64 - 1) × (result ≡ None) × (new ≡ last)

-- The effect of a read or a write under a limit. The call reads or writes at most `most` bytes. For
-- a read, `Moved` states the effect on the input, and `Still` states that the output is unchanged.
-- For a write, `Moved` states the effect on the output, and `Still` states that the input is
-- unchanged.
pub record EndsUnder {C Stream : Type 0} (Shows : C → Option ℕ → Type 0) (Does : Calls Stream) (limit : Limit C) (old : Stream) (result : Option ℕ)
    (new : Stream) (most : ℕ) (Moved Still : Type 0) : Type 0 where
  pub within : IfSome result (λ n. n ≤ most)
  pub bytes : Moved
  pub still : Still
  pub limited : IsCalledUnder Shows Does limit old result new

-- The call read at most `most` bytes.
abbrev pub TakesAtMost : ℕ → Option (List ℕ) → Option (List ℕ) → Type 0
TakesAtMost most old new = (bytes : List ℕ) × (length bytes ≤ most) × Consumes old new bytes
