use Rattle.std.proofs.Common.{subst, ap}
use Rattle.graph_model.specs.Rows.{end_key}
use Rattle.leaf_index.specs.Index.{Index}
use Rattle.leaf_index.specs.Slots.{HaveSlots}
use Rattle.leaf_index.proofs.SlotLemmas.{slot_at, floor_range}
use Rattle.leaf_index.proofs.index.LeafIndex.leaf_at.Goals as goal

pub range_of-requires : goal.range_of-requires
range_of-requires c =
    let f = c.leaf_of-leaf.ensures in
    (f.start, _, slot_at c.self.inside.slots.items end_key f.last.front f.start f.last.back (subst (HaveSlots c.self.inside.slots.items end_key) f.last.is c.self.invariant.0.have), f.same)

pub returns : goal.returns
returns c =
    floor_range c.self.inside.slots.items c.args.key c.self.inside.trie _ c.leaf_of-leaf.result c.range_of.result (ap (λ (i : Index). i.entries) c.self.view_is) c.self.invariant.0.have c.leaf_of-leaf.ensures c.range_of.ensures
