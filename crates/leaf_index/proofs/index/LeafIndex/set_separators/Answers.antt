use Rattle.std.proofs.Common.{refl, ap, arith}
use Rattle.std.proofs.lemmas.Option.{slice_get_read}
use Rattle.leaf_index.specs.Index.{Index}
use Rattle.leaf_index.proofs.SlotLemmas.{floor_within}
use Rattle.leaf_index.proofs.ChangeLemmas.{cut_changed}
use Rattle.leaf_index.proofs.HintLemmas.{cut_live}
use Rattle.leaf_index.proofs.index.LeafIndex.set_separators.Goals as goal

pub index-requires : goal.index-requires
index-requires c = omega (arith, floor_within c.self.inside.slots.items _ _ c.leaf_of-leaf.result c.self.invariant.0.have c.leaf_of-leaf.ensures)

pub index_mut-requires : goal.index_mut-requires
index_mut-requires c = omega (arith, floor_within c.self.inside.slots.items _ _ c.leaf_of-leaf.result c.self.invariant.0.have c.leaf_of-leaf.ensures)

pub invariant_of-self : goal.invariant_of-self
invariant_of-self c =
    let slots = c.self.inside.slots.items in
    let lt = floor_within slots _ _ c.leaf_of-leaf.result c.self.invariant.0.have c.leaf_of-leaf.ensures in
    let there = slice_get_read slots _ c.leaf_of-leaf.result c.index.result.now refl lt c.index.ensures in
    let x = cut_changed slots _ _ _ _ c.args.low c.args.cuts c.leaf_of-leaf.result c.index.result.now (ap (λ (i : Index). i.entries) c.self.view_is) c.self.invariant.0 c.requires c.leaf_of-leaf.ensures there in
    (x.kept, omega (arith, x.count, c.self.invariant.1), cut_live slots _ c.args.low c.leaf_of-leaf.result _ c.self.invariant.2 c.leaf_of-leaf.ensures)

pub returns-clause-entries : goal.returns-clause-entries
returns-clause-entries c = λ can.
    let slots = c.self.inside.slots.items in
    let lt = floor_within slots _ _ c.leaf_of-leaf.result c.self.invariant.0.have c.leaf_of-leaf.ensures in
    let there = slice_get_read slots _ c.leaf_of-leaf.result c.index.result.now refl lt c.index.ensures in
    let x = cut_changed slots _ _ _ _ c.args.low c.args.cuts c.leaf_of-leaf.result c.index.result.now (ap (λ (i : Index). i.entries) c.self.view_is) c.self.invariant.0 can c.leaf_of-leaf.ensures there in
    x.sets
