use Rattle.std.proofs.Common.{◌∙◌, refl, ap, subst, arith}
use Rattle.std.proofs.lemmas.Option.{slice_get_read}
use Rattle.leaf_index.specs.Index.{Index, IsIndex}
use Rattle.leaf_index.proofs.IndexLemmas.{kept_index, dropped_taken}
use Rattle.leaf_index.proofs.SlotLemmas.{floor_within, before_within}
use Rattle.leaf_index.proofs.ChangeLemmas.{neighbours, one_begins, two_there, before_there, drop_changed}
use Rattle.leaf_index.proofs.HintLemmas.{drop_live}
use Rattle.leaf_index.proofs.index.LeafIndex.drop_leaf.Goals as goal

pub unreachable-requires : goal.unreachable-requires
unreachable-requires c =
    let n = neighbours c.self.inside.slots.items c.self.inside.trie _ _ _ c.args.low (ap (λ (i : Index). i.entries) c.self.view_is) c.self.invariant.0 c.requires in
    before_there c.self.inside.slots.items c.self.inside.trie c.args.low _ c.requires n c.in_default.ensures

pub remove-requires-clause-there : goal.remove-requires-clause-there
remove-requires-clause-there c =
    let n = neighbours c.self.inside.slots.items c.self.inside.trie _ _ _ c.args.low (ap (λ (i : Index). i.entries) c.self.view_is) c.self.invariant.0 c.requires in
    one_begins c.self.inside.slots.items c.self.inside.trie c.args.low _ c.requires n

pub remove-requires-clause-more : goal.remove-requires-clause-more
remove-requires-clause-more c =
    let n = neighbours c.self.inside.slots.items c.self.inside.trie _ _ _ c.args.low (ap (λ (i : Index). i.entries) c.self.view_is) c.self.invariant.0 c.requires in
    two_there c.self.inside.slots.items c.self.inside.trie c.args.low _ c.requires n

pub index-requires : goal.index-requires
index-requires c = omega (arith, floor_within c.self.inside.slots.items _ _ c.leaf_of-dropped.result c.self.invariant.0.have c.leaf_of-dropped.ensures)

pub index_mut-requires : goal.index_mut-requires
index_mut-requires c = omega (arith, before_within c.self.inside.slots.items _ _ c.in-Some.before c.self.invariant.0.have c.in-Some.ensures)

pub index_mut-requires-2 : goal.index_mut-requires-2
index_mut-requires-2 c = omega (arith, floor_within c.self.inside.slots.items _ _ c.leaf_of-dropped.result c.self.invariant.0.have c.leaf_of-dropped.ensures)

pub invariant_of-self : goal.invariant_of-self
invariant_of-self c =
    let slots = c.self.inside.slots.items in
    let n = neighbours slots c.self.inside.trie _ _ _ c.args.low (ap (λ (i : Index). i.entries) c.self.view_is) c.self.invariant.0 c.requires in
    let gone = slice_get_read slots _ c.leaf_of-dropped.result c.index.result.now refl (floor_within slots _ _ c.leaf_of-dropped.result c.self.invariant.0.have c.leaf_of-dropped.ensures) c.index.ensures in
    let now = slice_get_read slots _ c.in-Some.before c.index_mut.result.now refl (before_within slots _ _ c.in-Some.before c.self.invariant.0.have c.in-Some.ensures) c.index_mut.ensures.value in
    let x = drop_changed slots _ c.remove.new.self _ _ _ c.args.low c.leaf_of-dropped.result c.in-Some.before c.index.result.now c.index_mut.result.now _ c.self.invariant.0 c.requires n c.leaf_of-dropped.ensures gone c.in-Some.ensures now c.remove.ensures in
    let live = drop_live slots _ c.remove.new.self c.args.low c.leaf_of-dropped.result c.in-Some.before c.index.result.now _ c.self.invariant.0.rising c.self.invariant.0.have c.self.invariant.2 c.leaf_of-dropped.ensures gone c.in-Some.ensures c.remove.ensures in
    (x.kept, omega (arith, x.count, c.self.invariant.1), live)

pub returns-clause-entries : goal.returns-clause-entries
returns-clause-entries c = λ can.
    let slots = c.self.inside.slots.items in
    let n = neighbours slots c.self.inside.trie _ _ _ c.args.low (ap (λ (i : Index). i.entries) c.self.view_is) c.self.invariant.0 can in
    let gone = slice_get_read slots _ c.leaf_of-dropped.result c.index.result.now refl (floor_within slots _ _ c.leaf_of-dropped.result c.self.invariant.0.have c.leaf_of-dropped.ensures) c.index.ensures in
    let now = slice_get_read slots _ c.in-Some.before c.index_mut.result.now refl (before_within slots _ _ c.in-Some.before c.self.invariant.0.have c.in-Some.ensures) c.index_mut.ensures.value in
    let x = drop_changed slots _ c.remove.new.self _ _ _ c.args.low c.leaf_of-dropped.result c.in-Some.before c.index.result.now c.index_mut.result.now _ c.self.invariant.0 can n c.leaf_of-dropped.ensures gone c.in-Some.ensures now c.remove.ensures in
    x.drops

pub returns-clause-taken : goal.returns-clause-taken
returns-clause-taken c = λ can.
    let slots = c.self.inside.slots.items in
    let n = neighbours slots c.self.inside.trie _ _ _ c.args.low (ap (λ (i : Index). i.entries) c.self.view_is) c.self.invariant.0 can in
    let gone = slice_get_read slots _ c.leaf_of-dropped.result c.index.result.now refl (floor_within slots _ _ c.leaf_of-dropped.result c.self.invariant.0.have c.leaf_of-dropped.ensures) c.index.ensures in
    let now = slice_get_read slots _ c.in-Some.before c.index_mut.result.now refl (before_within slots _ _ c.in-Some.before c.self.invariant.0.have c.in-Some.ensures) c.index_mut.ensures.value in
    let x = drop_changed slots _ c.remove.new.self _ _ _ c.args.low c.leaf_of-dropped.result c.in-Some.before c.index.result.now c.index_mut.result.now _ c.self.invariant.0 can n c.leaf_of-dropped.ensures gone c.in-Some.ensures now c.remove.ensures in
    let index = subst IsIndex c.self.view_is (kept_index _ _ _ _ c.self.invariant.0) in
    dropped_taken c.args.self.now _ c.args.low can index (x.count ∙ ap (λ (i : Index). i.leaves) c.self.view_is) (ap (λ (i : Index). i.free) c.self.view_is) (ap (λ (i : Index). i.retired) c.self.view_is) x.drops
