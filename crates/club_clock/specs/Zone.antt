-- This file defines the civil time in the club's zone.
use Rattle.std.specs.Prelude.{◌≡◌, ℕ, ◌+◌, ◌*◌, ℤ, pos, ◌+ℤ◌, ◌≤ℤ◌, ◌<ℤ◌, List, is_some, if◌then◌else◌, Option, Some, None, MatchOption}
use Rattle.club_values.specs.{Moment.IsMoment, Number.Reads}
use Rattle.jiff_core.specs.{Timestamp.nanos_of_seconds, declared.timestamp.Timestamp.Timestamp}
use Rattle.jiff_tz.specs.{PosixReader.read_whole, PosixRule.offset_at, PosixText.tz_view, declared.posix.TimeZone.TimeZone}

-- Returns the text if the text is a time zone rule of POSIX (IEEE Std 1003.1, 8.3). Otherwise
-- returns `None`.
unfoldable pub zone_of : List ℕ → Option (List ℕ)
zone_of text = if is_some (read_whole text) then Some text else None

-- The rule parses to the given zone.
abbrev pub IsZoneOf : List ℕ → TimeZone → Type 0
IsZoneOf rule zone = read_whole rule ≡ Some (tz_view zone)

-- The time `nanos` falls in the minute with the number `minute`. The time is in nanoseconds, and
-- both values count from 1970-01-01T00:00.
abbrev pub IsInMinute : ℤ → ℕ → Type 0
IsInMinute nanos minute =
    (pos (minute * 60_000_000_000) ≤ℤ nanos) × (nanos <ℤ pos (minute * 60_000_000_000 + 60_000_000_000))

-- The moment is the minute that a clock in the rule's zone shows at the instant. The moment is
-- `None` if the year of this minute is before 2000 or after 2099.
pub record IsShown (rule : List ℕ) (instant : ℤ) (moment : Option ℕ) : Type 0 where
  pub zone : TimeZone
  pub of_rule : IsZoneOf rule zone
  pub minute : Reads (λ n. IsMoment n × IsInMinute (instant +ℤ nanos_of_seconds (offset_at zone instant).seconds) n) moment

-- A clock in the rule's zone may show this moment. `Given` states which instants the machine's
-- clock may return. If the machine's clock returns no instant, the moment is `None`.
abbrev pub ShowsIn : List ℕ → (Option Timestamp → Type 0) → Option ℕ → Type 0
ShowsIn rule Given moment = (given : Option Timestamp) × Given given
    × MatchOption given (moment ≡ None) (λ instant. IsShown rule instant.nanosecond moment)
