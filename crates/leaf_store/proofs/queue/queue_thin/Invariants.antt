use Rattle.std.proofs.Common.{◌≡◌, ℕ, ◌<◌, length}
use Rattle.leaf_store.specs.Queued.{IsThickOrQueued}
use Rattle.leaf_store.proofs.queue.queue_thin.Given as goal

-- each of the first leaves is thick or waits, if it is live
abbrev pub invariant-leaves : goal.invariant-leaves
invariant-leaves l = record {
  each : (n : ℕ) → n < l.leaf → IsThickOrQueued l.index l.leaves.items l.queue n;
  count : length l.queue ≡ length l.leaves.items;
}
