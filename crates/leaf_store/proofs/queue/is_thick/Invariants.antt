use Rattle.std.proofs.Common.{ℕ, ◌<◌, ◌≤◌}
use Rattle.std.specs.Prelude.{slice_index}
use Rattle.density_tree.specs.declared.window.TheConstants.{LOWER_LIMITS}
use Rattle.leaf_store.proofs.queue.is_thick.Given as goal

-- none of the first segments has too few rows
abbrev pub invariant-segments : goal.invariant-segments
invariant-segments l = (s : ℕ) → s < l.segment → slice_index LOWER_LIMITS 0 ≤ slice_index l.counts s
