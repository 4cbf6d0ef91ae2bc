use Rattle.std.proofs.Common.{◌≤◌, length, refl, sym, ap, subst, arith, inl}
use Rattle.leaf_table.proofs.LeafArray.LeafLemmas.{on_ok}
use Rattle.leaf_store.proofs.ChangeLemmas.{is_within, has_memory, changed_cell, cell_now, no_spare_used, only_room, same_sound}
use Rattle.leaf_store.proofs.TendLemmas.{tended_change}
use Rattle.leaf_store.proofs.store.LeafStore.reserve.Goals as goal

pub index_mut-requires : goal.index_mut-requires
index_mut-requires c =
    omega (arith, is_within c.self.inside.index c.self.inside.leaves.items c.args.self.now c.args.key c.place_near-place.result c.self.view_is c.self.invariant.kept c.place_near-place.ensures c.requires)

pub unreachable-requires : goal.unreachable-requires
unreachable-requires c =
    has_memory c.self.inside.index c.self.inside.leaves.items c.args.self.now c.args.key c.place_near-place.result c.self.view_is c.self.invariant.kept c.place_near-place.ensures c.requires c.index_mut.result.now c.index_mut.ensures.value c.in-None.is

pub invariant_of-self : goal.invariant_of-self
invariant_of-self c =
    let kept = (changed_cell c.self.inside.index c.self.inside.leaves.items c.args.self.now c.args.key c.place_near-place.result c.self.view_is c.self.invariant.kept c.place_near-place.ensures c.requires
    c.index_mut.result.now c.in-Some.leaf c.deref_mut.result.now c.index-deref_mut-place.result c.reserve.new.self c.index_mut.ensures.value c.in-Some.is c.deref_mut.ensures.value
    (same_sound _ _ c.is_segment.ensures c.reserve.ensures.kept) c.reserve.ensures.kept.low c.reserve.ensures.kept.high).kept in
    tended_change c.self.inside.index c.self.inside.leaves.items c.args.key c.place_near-place.result c.self.invariant.kept c.place_near-place.ensures c.requires c.index_mut.result.now c.in-Some.leaf c.deref_mut.result.now c.index-deref_mut-place.result c.reserve.new.self c.index_mut.ensures.value c.in-Some.is c.deref_mut.ensures.value
    c.self.inside.queue c.self.inside.queue _ _ refl refl c.reserve.ensures.kept.low (inl (ap length c.reserve.ensures.kept.rows, refl)) kept c.self.invariant

pub returns-clause-ok : goal.returns-clause-ok
returns-clause-ok c =
    let changed = changed_cell c.self.inside.index c.self.inside.leaves.items c.args.self.now c.args.key c.place_near-place.result c.self.view_is c.self.invariant.kept c.place_near-place.ensures c.requires
    c.index_mut.result.now c.in-Some.leaf c.deref_mut.result.now c.index-deref_mut-place.result c.reserve.new.self c.index_mut.ensures.value c.in-Some.is c.deref_mut.ensures.value
    (same_sound _ _ c.is_segment.ensures c.reserve.ensures.kept) c.reserve.ensures.kept.low c.reserve.ensures.kept.high in
    on_ok _ _ c.reserve.result c.reserve.ensures.ok (λ le. subst (λ x. 4 ≤ x.spare) (sym (cell_now c.self.inside.index c.self.inside.leaves.items _ c.args.self.now c.args.key _ _ c.self.view_is c.self.invariant.kept changed)) le)

pub returns-clause-room : goal.returns-clause-room
returns-clause-room c =
    let changed = changed_cell c.self.inside.index c.self.inside.leaves.items c.args.self.now c.args.key c.place_near-place.result c.self.view_is c.self.invariant.kept c.place_near-place.ensures c.requires
    c.index_mut.result.now c.in-Some.leaf c.deref_mut.result.now c.index-deref_mut-place.result c.reserve.new.self c.index_mut.ensures.value c.in-Some.is c.deref_mut.ensures.value
    (same_sound _ _ c.is_segment.ensures c.reserve.ensures.kept) c.reserve.ensures.kept.low c.reserve.ensures.kept.high in
    no_spare_used c.self.inside.index c.self.inside.leaves.items _ c.args.self.now c.args.key _ _ c.self.view_is c.self.invariant.kept changed c.reserve.ensures.spare

pub returns-clause-kept : goal.returns-clause-kept
returns-clause-kept c =
    let changed = changed_cell c.self.inside.index c.self.inside.leaves.items c.args.self.now c.args.key c.place_near-place.result c.self.view_is c.self.invariant.kept c.place_near-place.ensures c.requires
    c.index_mut.result.now c.in-Some.leaf c.deref_mut.result.now c.index-deref_mut-place.result c.reserve.new.self c.index_mut.ensures.value c.in-Some.is c.deref_mut.ensures.value
    (same_sound _ _ c.is_segment.ensures c.reserve.ensures.kept) c.reserve.ensures.kept.low c.reserve.ensures.kept.high in
    only_room c.self.inside.index c.self.inside.leaves.items _ c.args.self.now c.args.key _ _ c.self.view_is c.self.invariant.kept changed c.reserve.ensures.kept
