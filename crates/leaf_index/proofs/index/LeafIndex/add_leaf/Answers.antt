use Rattle.std.proofs.Common.{refl, sym, ◌∙◌, ap, arith}
use Rattle.std.proofs.lemmas.Option.{slice_get_read}
use Rattle.leaf_index.specs.Index.{Index}
use Rattle.leaf_index.proofs.SlotLemmas.{floor_within, same_some}
use Rattle.leaf_index.proofs.IndexLemmas.{unused}
use Rattle.leaf_index.proofs.ChangeLemmas.{add_changed, none_at}
use Rattle.leaf_index.proofs.HintLemmas.{add_live}
use Rattle.leaf_index.proofs.index.LeafIndex.add_leaf.Goals as goal

pub insert-requires : goal.insert-requires
insert-requires c = none_at c.self.inside.slots.items c.self.inside.trie _ _ _ c.args.low c.args.cuts (ap (λ (i : Index). i.entries) c.self.view_is) c.self.invariant.0 c.requires.place

pub index-requires : goal.index-requires
index-requires c = omega (arith, floor_within c.self.inside.slots.items _ _ c.leaf_of-before.result c.self.invariant.0.have c.leaf_of-before.ensures)

pub index_mut-requires : goal.index_mut-requires
index_mut-requires c = omega (arith, floor_within c.self.inside.slots.items _ _ c.leaf_of-before.result c.self.invariant.0.have c.leaf_of-before.ensures)

pub invariant_of-self-2 : goal.invariant_of-self-2
invariant_of-self-2 c =
    let slots = c.self.inside.slots.items in
    let lt = floor_within slots _ _ c.leaf_of-before.result c.self.invariant.0.have c.leaf_of-before.ensures in
    let there = slice_get_read slots _ c.leaf_of-before.result c.index.result.now refl lt c.index.ensures in
    let same = same_some (sym (slice_get_read slots _ c.leaf_of-before.result c.index_mut.result.now refl lt c.index_mut.ensures.value) ∙ there) in
    let u = unused _ _ _ _ _ c.args.leaf c.self.view_is c.requires.taken in
    let x = add_changed slots _ c.insert.new.self _ _ _ c.args.low c.args.leaf c.args.cuts c.leaf_of-before.result c.index.result.now (ap (λ (i : Index). i.entries) c.self.view_is) c.self.invariant.0 u c.requires.place c.leaf_of-before.ensures there c.in_ok-insert.ensures.ok in
    rw same (x.kept, omega (arith, x.count, c.self.invariant.1), add_live slots _ c.insert.new.self c.args.low c.args.leaf c.leaf_of-before.result _ _ c.self.invariant.2 c.leaf_of-before.ensures c.in_ok-insert.ensures.ok)

pub returns-clause-ok : goal.returns-clause-ok
returns-clause-ok c = λ can.
    let slots = c.self.inside.slots.items in
    let lt = floor_within slots _ _ c.leaf_of-before.result c.self.invariant.0.have c.leaf_of-before.ensures in
    let there = slice_get_read slots _ c.leaf_of-before.result c.index.result.now refl lt c.index.ensures in
    let same = same_some (sym (slice_get_read slots _ c.leaf_of-before.result c.index_mut.result.now refl lt c.index_mut.ensures.value) ∙ there) in
    let u = unused _ _ _ _ _ c.args.leaf c.self.view_is c.requires.taken in
    let x = add_changed slots _ c.insert.new.self _ _ _ c.args.low c.args.leaf c.args.cuts c.leaf_of-before.result c.index.result.now (ap (λ (i : Index). i.entries) c.self.view_is) c.self.invariant.0 u can c.leaf_of-before.ensures there c.in_ok-insert.ensures.ok in
    rw same x.adds
