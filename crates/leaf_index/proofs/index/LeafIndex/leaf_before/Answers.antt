use Rattle.std.proofs.Common.{subst, ap}
use Rattle.graph_model.specs.Rows.{end_key}
use Rattle.leaf_index.specs.Index.{Index}
use Rattle.leaf_index.specs.Slots.{HaveSlots}
use Rattle.leaf_index.proofs.SlotLemmas.{slot_at, before_range, none_before}
use Rattle.leaf_index.proofs.index.LeafIndex.leaf_before.Goals as goal

pub range_of-requires : goal.range_of-requires
range_of-requires c =
    let b = c.in-Some.ensures in
    (b.start, _, slot_at c.self.inside.slots.items end_key b.last.front b.start b.last.back (subst (HaveSlots c.self.inside.slots.items end_key) b.last.is c.self.invariant.0.have), b.same)

pub returns-in-Some : goal.returns-in-Some
returns-in-Some c =
    before_range c.self.inside.slots.items c.args.key c.self.inside.trie _ c.in-Some.leaf c.range_of.result (ap (λ (i : Index). i.entries) c.self.view_is) c.self.invariant.0.have c.in-Some.ensures c.range_of.ensures

pub returns-in-None : goal.returns-in-None
returns-in-None c = none_before c.self.inside.slots.items c.args.key c.self.inside.trie _ (ap (λ (i : Index). i.entries) c.self.view_is) c.in-None.ensures
