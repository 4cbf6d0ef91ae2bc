use Rattle.std.proofs.Common.{◌≡◌, ◌+◌, ◌++◌, length}
use Rattle.std.specs.Prelude.{reverse}
use Rattle.leaf_index.specs.declared.chain.Chain.{Chain}
use Rattle.leaf_index.specs.Idle.{AreApart, leaves_of}
use Rattle.leaf_index.proofs.chain.Chain.turned.Given as goal

abbrev pub invariant-leaves : goal.invariant-leaves
invariant-leaves l = record {
  whole : leaves_of l.fn.links.items l.fn.self ≡ leaves_of l.links.items l.from ++ reverse (leaves_of l.links.items l.turned);
  from_count : l._leaf + l.from.count ≡ l.fn.self.count;
  turned_count : l.turned.count ≡ l._leaf;
  others : (other : Chain) → AreApart (leaves_of l.fn.links.items l.fn.self) (leaves_of l.fn.links.items other) → leaves_of l.links.items other ≡ leaves_of l.fn.links.items other;
  same_length : length l.links.items ≡ length l.fn.links.items;
}
