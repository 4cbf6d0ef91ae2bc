use Rattle.std.proofs.Common.{◌≡◌, replicate, None}
use Rattle.leaf_table.proofs.table.empty_table.Given as goal

abbrev pub invariant-fill : goal.invariant-fill
invariant-fill l = l.table.items ≡ replicate l._leaf None
