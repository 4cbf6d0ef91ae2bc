use Rattle.std.proofs.Common.{◌≡◌, ◌+◌, ◌-◌, ◌≤◌, length}
use Rattle.std.specs.List.{range_with_len}
use Rattle.leaf_index.specs.Idle.{leaves_of}
use Rattle.leaf_index.proofs.idle.IdleLeaves.new.Given as goal

abbrev pub invariant-fill : goal.invariant-fill
invariant-fill l = record {
  free : leaves_of l.links.items l.free ≡ range_with_len 1 (l.leaf - 1);
  count : l.free.count + 1 ≡ l.leaf;
  some : 1 ≤ l.leaf;
  links_length : length l.links.items ≡ l.leaves;
  stamps_length : length l.stamps.items ≡ l.leaves;
}
