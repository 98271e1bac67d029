use Rattle.club_gate.proofs.listing.push_key.Goals as goal

pub returns-in-None : goal.returns-in-None
returns-in-None c = rw (c.in-None.is, ← c.yes_or_no-revoked.ensures) c.writeln.ensures.bytes

pub returns-in-Some : goal.returns-in-Some
returns-in-Some c = rw (c.in-Some.is, ← c.yes_or_no-revoked.ensures) c.writeln-in-Some.ensures.bytes
