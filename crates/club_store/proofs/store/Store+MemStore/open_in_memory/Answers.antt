use Rattle.std.proofs.Common.{inr}
use Rattle.sqlite.proofs.Callers.{memory_is_clean}
use Rattle.club_store.proofs.store.Store+MemStore.open_in_memory.Goals as goal

pub returns-in-Ok-adopt-clause-opened : goal.returns-in-Ok-adopt-clause-opened
returns-in-Ok-adopt-clause-opened c = c.in-Ok-adopt.ensures.empty (memory_is_clean c.in-Ok-adopt.store) c.in-Ok.ensures.empty

pub returns-in-Err-adopt-clause-fault : goal.returns-in-Err-adopt-clause-fault
returns-in-Err-adopt-clause-fault c =
    inr (
      c.in-Ok.connection,
      c.in-Err-adopt._connection,
      c.in-Ok.ensures.empty,
      c.in-Err-adopt.ensures.fault c.in-Ok.ensures.empty.0.autocommit (memory_is_clean c.in-Err-adopt._connection),
    )
