use Rattle.std.proofs.Common.{◌≡◌, ◌<◌, ℕ, Some, true}
use Rattle.std.specs.Prelude.{slice_get}
use Rattle.graph_model.specs.declared.row.Key.{Key}
use Rattle.graph_model.specs.Rows.{is_below}
use Rattle.leaf_index.proofs.slot.segment_of.Given as goal

abbrev pub invariant-down : goal.invariant-down
invariant-down l = record {
  within : l.segment < 8;
  later : (s : ℕ) (k : Key) → l.segment < s → slice_get l.cuts s ≡ Some k → is_below l.key k ≡ true;
}

abbrev pub decreases-down : goal.decreases-down
decreases-down l = l.segment
