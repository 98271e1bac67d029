use Rattle.sqlite.proofs.Callers.{memory_is_clean}
use Rattle.club_store.proofs.laws.memory_disk_is_clean.Goals as goal

pub returns : goal.returns
returns c = memory_is_clean c.args.store.now
