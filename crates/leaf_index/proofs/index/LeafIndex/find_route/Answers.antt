use Rattle.std.proofs.Common.{subst, refl, ap, arith}
use Rattle.std.proofs.lemmas.Option.{slice_get_read}
use Rattle.graph_model.specs.Rows.{end_key}
use Rattle.leaf_index.specs.Index.{Index}
use Rattle.leaf_index.specs.Slots.{HaveSlots}
use Rattle.leaf_index.proofs.SlotLemmas.{slot_at, slot_within, low_read, read_there, within_there, route_of}
use Rattle.leaf_index.proofs.index.LeafIndex.find_route.Goals as goal

pub index-slot-requires : goal.index-slot-requires
index-slot-requires c =
    let f = c.leaf_of-leaf.ensures in
    let slots = c.self.inside.slots.items in
    let h = slot_at slots end_key f.last.front f.start f.last.back (subst (HaveSlots slots end_key) f.last.is c.self.invariant.0.have) in
    omega (arith, slot_within slots f.start c.leaf_of-leaf.result _ h f.same)

pub segment_of-segment-requires : goal.segment_of-segment-requires
segment_of-segment-requires c =
    let f = c.leaf_of-leaf.ensures in
    let slots = c.self.inside.slots.items in
    let h = slot_at slots end_key f.last.front f.start f.last.back (subst (HaveSlots slots end_key) f.last.is c.self.invariant.0.have) in
    let lt = slot_within slots f.start c.leaf_of-leaf.result _ h f.same in
    let there = slice_get_read slots _ c.leaf_of-leaf.result c.index-slot.result.now refl lt c.index-slot.ensures in
    (f.start.low, low_read slots f.start c.leaf_of-leaf.result _ c.index-slot.result.now h f.same there, f.last.from)

pub overflow_mul-result : goal.overflow_mul-result
overflow_mul-result c =
    let f = c.leaf_of-leaf.ensures in
    let slots = c.self.inside.slots.items in
    let h = slot_at slots end_key f.last.front f.start f.last.back (subst (HaveSlots slots end_key) f.last.is c.self.invariant.0.have) in
    let lt = slot_within slots f.start c.leaf_of-leaf.result _ h f.same in
    omega (arith, lt, c.self.invariant.0.few)

pub overflow_add-result : goal.overflow_add-result
overflow_add-result c =
    let f = c.leaf_of-leaf.ensures in
    let slots = c.self.inside.slots.items in
    let h = slot_at slots end_key f.last.front f.start f.last.back (subst (HaveSlots slots end_key) f.last.is c.self.invariant.0.have) in
    let lt = slot_within slots f.start c.leaf_of-leaf.result _ h f.same in
    omega (arith, lt, c.self.invariant.0.few, c.segment_of-segment.ensures.within)

pub returns : goal.returns
returns c =
    let f = c.leaf_of-leaf.ensures in
    let slots = c.self.inside.slots.items in
    let h = slot_at slots end_key f.last.front f.start f.last.back (subst (HaveSlots slots end_key) f.last.is c.self.invariant.0.have) in
    let lt = slot_within slots f.start c.leaf_of-leaf.result _ h f.same in
    let there = slice_get_read slots _ c.leaf_of-leaf.result c.index-slot.result.now refl lt c.index-slot.ensures in
    let seg = c.segment_of-segment.ensures in
    route_of slots c.args.key c.self.inside.trie c.args.self.now.entries c.leaf_of-leaf.result c.segment_of-segment.result c.index-slot.result.now _ (ap (λ (i : Index). i.entries) c.self.view_is) c.self.invariant.0.have f
    there seg refl (read_there c.index-slot.result.now.cuts c.segment_of-segment.result _ (within_there _ _ _ seg.there)) c.high_of.ensures
