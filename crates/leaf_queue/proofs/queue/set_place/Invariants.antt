use Rattle.std.proofs.Common.{◌≡◌, ◌*◌, ◌<◌, ◌≤◌, drop, length}
use Rattle.std.specs.Prelude.{slice_set}
use Rattle.leaf_queue.proofs.TreeLemmas.{WonBut}
use Rattle.leaf_queue.proofs.queue.set_place.Given as goal

-- all nodes but the one above the last that was set are right
abbrev pub invariant-above : goal.invariant-above
invariant-above l = record {
  some : 1 ≤ l.at;
  within : l.at < 2 * l.leaves;
  count : length l.nodes.items ≡ 2 * l.leaves;
  places : drop l.leaves l.nodes.items ≡ slice_set (drop l.leaves l.fn.nodes.items) l.leaf l.fn.waiting;
  won : WonBut l.leaves l.at l.nodes.items;
}

abbrev pub decreases-above : goal.decreases-above
decreases-above l = l.at
