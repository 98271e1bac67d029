-- The changes that a recorded file keeps.
use Rattle.std.specs.Prelude.{ℕ, List, Option, Some, None}
use Rattle.sqlite_disk.specs.History.{Step, wrote, resized}

-- Returns a step. With an offset, the step writes `bytes`, whose length is `n`. Without an offset,
-- the step changes the file's length to `n`.
abbrev pub step_from : Option ℕ → ℕ → List ℕ → Step
step_from None n bytes = resized n
step_from (Some at) n bytes = wrote at n bytes
