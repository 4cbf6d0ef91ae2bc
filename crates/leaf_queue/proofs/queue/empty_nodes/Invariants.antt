use Rattle.std.proofs.Common.{◌≡◌, replicate, None}
use Rattle.leaf_queue.proofs.queue.empty_nodes.Given as goal

abbrev pub invariant-fill : goal.invariant-fill
invariant-fill l = l.nodes.items ≡ replicate l._node None
