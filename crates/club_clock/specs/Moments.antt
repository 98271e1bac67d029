-- This file defines the moments that a clock returns.
use Rattle.std.specs.Prelude.{◌≡◌, ℕ, Option, Some}
use Rattle.jiff_core.specs.declared.timestamp.Timestamp.{Timestamp}
use Rattle.club_clock.specs.{Zone.ShowsIn, declared.clock.Clock.{Clock, TheVariants.{Fixed, InZone}}}

-- A relation `GivesMoment` describes a call to a clock by three terms: the clock before the call,
-- the returned moment, and the clock after the call.
abbrev pub GivesMoment : Type 0 → Type 1
GivesMoment Clock = Clock → Option ℕ → Clock → Type 0

-- The clock may show this moment. A clock with a fixed moment always shows the fixed moment. Any
-- other clock shows the moment in its zone at the machine's current instant, or `None` if the
-- machine's clock returns no instant.
abbrev pub IsMomentOf : (Option Timestamp → Type 0) → Clock → Option ℕ → Type 0
IsMomentOf Given (Fixed moment) shown = shown ≡ Some moment
IsMomentOf Given (InZone rule) shown = ShowsIn rule Given shown

-- A call that reads the club's clock may return this moment. The call changes neither the club's
-- clock nor the machine's clock.
abbrev pub showing : {C : Type 0} → (C → Option Timestamp → Type 0) → GivesMoment (Clock × C)
showing Shows clock shown next = IsMomentOf (Shows clock.1) clock.0 shown × (next ≡ clock)
