use Rattle.std.proofs.Common.{true, refl}
use Rattle.sqlite_pool.specs.Pool.{state}
use Rattle.sqlite_trees.proofs.Doubt.{no_doubt}
use Rattle.club_store.proofs.laws.disk_of_files_that_stop_is_clean.Goals as goal

pub returns : goal.returns
unfolding state
returns c = no_doubt true refl
