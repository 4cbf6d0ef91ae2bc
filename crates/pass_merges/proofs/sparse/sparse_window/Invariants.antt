use Rattle.std.proofs.Common.{ℕ, ◌<◌}
use Rattle.pass_moves.specs.LeafStore.Merging.{HasNoWindow}
use Rattle.pass_merges.proofs.sparse.sparse_window.Given as goal

-- round none of the first cells is such a window
abbrev pub invariant-segments : goal.invariant-segments
invariant-segments l = (segment : ℕ) → segment < l.segment → HasNoWindow l.counts segment
