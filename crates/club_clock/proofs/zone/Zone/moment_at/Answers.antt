use Rattle.std.proofs.Common.{ℕ, ◌+◌, ◌*◌, ap₂}
use Rattle.club_clock.proofs.ZoneLemmas.{none_shown, shown}
use Rattle.club_clock.proofs.zone.Zone.moment_at.Goals as goal

pub returns-in_err-day : goal.returns-in_err-day
returns-in_err-day c =
    rw (c.from_residual.ensures, ← c.self.view_is) (none_shown c.self.inside.rule.now c.args.instant.nanosecond c.self.inside.time_zone c.self.invariant
    c.to_datetime-civil.result (rw c.to_offset.ensures at c.to_datetime-civil.ensures) c.in_err-day.ensures)

pub returns : goal.returns
returns c =
    let day = c.in_ok-day.ensures in
    let minute = ap₂ (λ (h m : ℕ). h * 60 + m) c.from.ensures c.from-2.ensures in
    rw (← c.self.view_is) (shown c.self.inside.rule.now c.args.instant.nanosecond c.self.inside.time_zone c.self.invariant
    c.to_datetime-civil.result (rw c.to_offset.ensures at c.to_datetime-civil.ensures) c.in_ok-day.day _ c.new.result day.0 day.1 minute
    c.new.ensures.within c.new.ensures.value)
