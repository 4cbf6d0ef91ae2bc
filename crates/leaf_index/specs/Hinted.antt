-- Parts of lists of hints. Only the crate itself speaks of them.
use Rattle.std.specs.Prelude.{ℕ, ◌+◌, ◌≤◌}
use Rattle.leaf_index.specs.declared.hints.HintRun.{HintRun}

-- there are so many hints from the first one on, and one at least
pub record IsRun (length : ℕ) (run : HintRun) : Type 0 where
  pub some : 1 ≤ run.count
  pub within : run.first + run.count ≤ length
