use Rattle.std.proofs.Common.{◌≡◌, ◌≤◌, length, drop}
use Rattle.graph_model.specs.declared.row.Key.{Key}
use Rattle.store_model.specs.Layers.{undone}
use Rattle.leaf_store.specs.Leaves.{contents_of, weight}
use Rattle.leaf_rows.proofs.rows.LeafRows.undo_all.Given as goal

-- the writes from there on are taken back
abbrev pub invariant-writes : goal.invariant-writes
invariant-writes l = record {
  within : l.left ≤ length l.writes;
  limit : l.self.limit ≡ l.fn.self.limit;
  weight : weight l.self ≤ weight l.fn.self;
  contents : (q : Key) → contents_of l.self q ≡ undone l.kind l.by (drop l.left l.writes) q (contents_of l.fn.self q);
}

abbrev pub decreases-writes : goal.decreases-writes
decreases-writes l = l.left
