use Rattle.std.proofs.Common.{◌≡◌, ◌-◌, ◌<◌, ◌≤◌}
use Rattle.graph_model.specs.Transactions.{stamp_in}
use Rattle.leaf_store.specs.Leaves.{weight}
use Rattle.leaf_rows.specs.Laying.{AreGone}
use Rattle.leaf_rows.proofs.SettleLemmas.{rank}
use Rattle.leaf_rows.proofs.SweepLemmas.{IsPrunedTo}
use Rattle.leaf_rows.proofs.rows.LeafRows.sweep_cells.Given as goal

-- the leaf's rows below the key are pruned
abbrev pub invariant-cells : goal.invariant-cells
invariant-cells l = record {
  pruned : IsPrunedTo (stamp_in l.manager.journal) l.horizon l.range.low l.range.high l.fn.self l.self l.next;
  went : AreGone l.records l.fn.self l.self;
  fits : (l.next).second < 18446744073709551616;
  limit : l.self.limit ≡ l.fn.self.limit;
  weight : weight l.self ≤ weight l.fn.self;
}

abbrev pub decreases-cells : goal.decreases-cells
decreases-cells l = rank l.range.high - rank l.next
