use Rattle.std.proofs.Common.{◌-◌, ◌<◌}
use Rattle.graph_model.specs.Rows.{end_key}
use Rattle.leaf_store.proofs.WalkLemmas.{rank}
use Rattle.leaf_store.proofs.RecordLemmas.{AreCounted}
use Rattle.leaf_store.proofs.count.count_records.Given as goal

-- the records of the leaves before the key are counted
abbrev pub invariant-leaves : goal.invariant-leaves
invariant-leaves l = record {
  counted : AreCounted l.index l.leaves.items l.key l.records;
  fits : (l.key).second < 18446744073709551616;
}

abbrev pub decreases-leaves : goal.decreases-leaves
decreases-leaves l = rank end_key - rank l.key
