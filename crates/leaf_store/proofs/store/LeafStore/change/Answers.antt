use Rattle.std.proofs.Common.{subst, arith}
use Rattle.leaf_table.specs.VersionSegment.Changes.{MayChange, changed as changed_by, records_for}
use Rattle.leaf_store.proofs.ChangeLemmas.{is_within, has_memory, read_cell, changed_cell, only_versions, only_spare}
use Rattle.leaf_store.proofs.RoomLemmas.{place_stands, stands_leaf}
use Rattle.leaf_store.proofs.TendLemmas.{tended_change}
use Rattle.leaf_store.proofs.store.LeafStore.change.Goals as goal

pub index_mut-requires : goal.index_mut-requires
index_mut-requires c =
    omega (arith, is_within c.self.inside.index c.self.inside.leaves.items c.args.self.now c.args.key c.place_near-place.result c.self.view_is c.self.invariant.kept c.place_near-place.ensures c.requires.within)

pub unreachable-requires : goal.unreachable-requires
unreachable-requires c =
    has_memory c.self.inside.index c.self.inside.leaves.items c.args.self.now c.args.key c.place_near-place.result c.self.view_is c.self.invariant.kept c.place_near-place.ensures c.requires.within c.index_mut.result.now c.index_mut.ensures.value c.in-None.is

pub change-requires : goal.change-requires
change-requires c =
    let read = (read_cell c.self.inside.index c.self.inside.leaves.items c.args.self.now c.args.key c.place_near-place.result c.self.view_is c.self.invariant.kept c.place_near-place.ensures c.requires.within
    c.index_mut.result.now c.in-Some.leaf c.deref_mut.result.now c.index-deref_mut-place.result c.index_mut.ensures.value c.in-Some.is c.deref_mut.ensures.value).0 in
    subst (MayChange c.args.change c.args.by c.args.key) read c.requires.may

pub queue_change-requires-clause-leaf : goal.queue_change-requires-clause-leaf
queue_change-requires-clause-leaf c =
    let kept = (changed_cell c.self.inside.index c.self.inside.leaves.items c.args.self.now c.args.key c.place_near-place.result c.self.view_is c.self.invariant.kept c.place_near-place.ensures c.requires.within
    c.index_mut.result.now c.in-Some.leaf c.deref_mut.result.now c.index-deref_mut-place.result c.change.new.self c.index_mut.ensures.value c.in-Some.is c.deref_mut.ensures.value
    c.len-rows.ensures.sound c.change.ensures.changed.low c.change.ensures.changed.high).kept in
    stands_leaf c.self.inside.index _ c.place_near-place.result.leaf kept (place_stands c.self.inside.index c.self.inside.leaves.items c.args.key c.place_near-place.result c.self.invariant.kept c.place_near-place.ensures c.requires.within)

pub queue_change-requires-clause-within : goal.queue_change-requires-clause-within
queue_change-requires-clause-within c =
    omega (arith, is_within c.self.inside.index c.self.inside.leaves.items c.args.self.now c.args.key c.place_near-place.result c.self.view_is c.self.invariant.kept c.place_near-place.ensures c.requires.within, c.self.invariant.kept.count, c.self.invariant.count)

pub invariant_of-self : goal.invariant_of-self
invariant_of-self c =
    let kept = (changed_cell c.self.inside.index c.self.inside.leaves.items c.args.self.now c.args.key c.place_near-place.result c.self.view_is c.self.invariant.kept c.place_near-place.ensures c.requires.within
    c.index_mut.result.now c.in-Some.leaf c.deref_mut.result.now c.index-deref_mut-place.result c.change.new.self c.index_mut.ensures.value c.in-Some.is c.deref_mut.ensures.value
    c.len-rows.ensures.sound c.change.ensures.changed.low c.change.ensures.changed.high).kept in
    tended_change c.self.inside.index c.self.inside.leaves.items c.args.key c.place_near-place.result c.self.invariant.kept c.place_near-place.ensures c.requires.within c.index_mut.result.now c.in-Some.leaf c.deref_mut.result.now c.index-deref_mut-place.result c.change.new.self c.index_mut.ensures.value c.in-Some.is c.deref_mut.ensures.value
    c.self.inside.queue c.queue_change.new.queue c.len-before.result c.len-rows.result c.len-before.ensures.len c.len-rows.ensures.len c.change.ensures.changed.low c.queue_change.ensures kept c.self.invariant

pub returns-clause-changed : goal.returns-clause-changed
returns-clause-changed c =
    let changed = changed_cell c.self.inside.index c.self.inside.leaves.items c.args.self.now c.args.key c.place_near-place.result c.self.view_is c.self.invariant.kept c.place_near-place.ensures c.requires.within
    c.index_mut.result.now c.in-Some.leaf c.deref_mut.result.now c.index-deref_mut-place.result c.change.new.self c.index_mut.ensures.value c.in-Some.is c.deref_mut.ensures.value
    c.len-rows.ensures.sound c.change.ensures.changed.low c.change.ensures.changed.high in
    only_versions c.self.inside.index c.self.inside.leaves.items _ c.args.self.now c.args.key _ _ c.self.view_is c.self.invariant.kept changed (changed_by c.args.change c.args.by) c.change.ensures.changed

pub returns-clause-spare : goal.returns-clause-spare
returns-clause-spare c =
    let changed = changed_cell c.self.inside.index c.self.inside.leaves.items c.args.self.now c.args.key c.place_near-place.result c.self.view_is c.self.invariant.kept c.place_near-place.ensures c.requires.within
    c.index_mut.result.now c.in-Some.leaf c.deref_mut.result.now c.index-deref_mut-place.result c.change.new.self c.index_mut.ensures.value c.in-Some.is c.deref_mut.ensures.value
    c.len-rows.ensures.sound c.change.ensures.changed.low c.change.ensures.changed.high in
    only_spare c.self.inside.index c.self.inside.leaves.items _ c.args.self.now c.args.key _ _ c.self.view_is c.self.invariant.kept changed (records_for c.args.change) c.change.ensures.spare
