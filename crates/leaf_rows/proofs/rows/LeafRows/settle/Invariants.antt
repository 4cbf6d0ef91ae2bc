use Rattle.std.proofs.Common.{◌≡◌, ◌-◌, ◌<◌, ◌≤◌}
use Rattle.graph_model.specs.Rows.{end_key}
use Rattle.graph_model.specs.Transactions.{stamp_in}
use Rattle.leaf_store.specs.Leaves.{weight}
use Rattle.leaf_rows.proofs.SettleLemmas.{HasPruned, rank}
use Rattle.leaf_rows.proofs.rows.LeafRows.settle.Given as goal

-- the rows below the key are pruned
abbrev pub invariant-leaves : goal.invariant-leaves
invariant-leaves l = record {
  pruned : HasPruned (stamp_in l.manager.journal) l.horizon l.fn.self l.self l.key;
  fits : (l.key).second < 18446744073709551616;
  limit : l.self.limit ≡ l.fn.self.limit;
  weight : weight l.self ≤ weight l.fn.self;
}

abbrev pub decreases-leaves : goal.decreases-leaves
decreases-leaves l = rank end_key - rank l.key
