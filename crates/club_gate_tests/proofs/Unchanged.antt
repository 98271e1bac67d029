use Rattle.std.proofs.Common.{ℕ, List, rules}
use Rattle.sqlite_disk.specs.Disk.{Torn, Mixed, Cut}

-- A crash may lose a change of a file's length or a write. The file then stays as it was.
pub cut_nothing : (n : ℕ) (file : List ℕ) → Cut n file file
cut_nothing n file = search rules

pub mixed_nothing : (at : ℕ) (bytes file : List ℕ) → Mixed at bytes file file
mixed_nothing at bytes file = search rules

pub torn_nothing : (at n : ℕ) (file : List ℕ) → Torn at n file file
torn_nothing at n file = search rules
