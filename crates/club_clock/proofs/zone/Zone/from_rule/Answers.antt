use Rattle.std.proofs.Common.{refl}
use Rattle.club_clock.proofs.ZoneLemmas.{no_zone, zone_read}
use Rattle.club_clock.proofs.zone.Zone.from_rule.Goals as goal

pub returns-in-Ok : goal.returns-in-Ok
returns-in-Ok c = zone_read c.args.rule.now (rw (← c.as_bytes.ensures.value) (c.in-Ok.ensures.succeeds.0 refl))

pub returns-in-Err : goal.returns-in-Err
returns-in-Err c = no_zone c.args.rule.now (λ some. let bad = c.in-Err.ensures.succeeds.1 (rw c.as_bytes.ensures.value some) in cc)
