use Rattle.std.proofs.Common.{ℕ, ◌<◌}
use Rattle.std.specs.Prelude.{None, slice_index}
use Rattle.density_tree.specs.declared.window.TheConstants.{LOWER_LIMITS}
use Rattle.density_tree.specs.Windows.{IsDense, IsSmallestWindow}
use Rattle.leaf_store.proofs.sparse.sparse_window.Given as goal

-- round none of the first segments is such a window
abbrev pub invariant-segments : goal.invariant-segments
invariant-segments l = (s : ℕ) → s < l.segment → slice_index l.counts s < slice_index LOWER_LIMITS 0 → IsSmallestWindow (IsDense l.counts) s None
