use Rattle.std.proofs.Common.{◌+◌, ◌∙◌, ap, subst, arith}
use Rattle.leaf_table.specs.VersionSegment.Checks.{AreNamedRows}
use Rattle.leaf_table.specs.VersionSegment.Rows.{all_records}
use Rattle.leaf_store.proofs.ChangeLemmas.{is_within, has_memory, read_cell, changed_cell, only_pruned}
use Rattle.leaf_store.proofs.RoomLemmas.{place_stands, stands_leaf}
use Rattle.leaf_store.proofs.TendLemmas.{tended_change}
use Rattle.leaf_store.proofs.store.LeafStore.prune.Goals as goal

pub index_mut-requires : goal.index_mut-requires
index_mut-requires g c =
    omega (arith, is_within c.self.inside.index c.self.inside.leaves.items c.args.self.now c.args.key c.place_near-place.result c.self.view_is c.self.invariant.kept c.place_near-place.ensures c.requires.within)

pub unreachable-requires : goal.unreachable-requires
unreachable-requires g c =
    has_memory c.self.inside.index c.self.inside.leaves.items c.args.self.now c.args.key c.place_near-place.result c.self.view_is c.self.invariant.kept c.place_near-place.ensures c.requires.within c.index_mut.result.now c.index_mut.ensures.value c.in-None.is

pub prune-records-requires-clause-named : goal.prune-records-requires-clause-named
prune-records-requires-clause-named g c =
    let read = (read_cell c.self.inside.index c.self.inside.leaves.items c.args.self.now c.args.key c.place_near-place.result c.self.view_is c.self.invariant.kept c.place_near-place.ensures c.requires.within
    c.index_mut.result.now c.in-Some.leaf c.deref_mut.result.now c.index-deref_mut-place.result c.index_mut.ensures.value c.in-Some.is c.deref_mut.ensures.value).0 in
    subst (λ x. AreNamedRows (g.S.States.knowledge c.args.states.now).names x.rows) read c.requires.named

pub queue_change-requires-clause-leaf : goal.queue_change-requires-clause-leaf
queue_change-requires-clause-leaf g c =
    let kept = (changed_cell c.self.inside.index c.self.inside.leaves.items c.args.self.now c.args.key c.place_near-place.result c.self.view_is c.self.invariant.kept c.place_near-place.ensures c.requires.within
    c.index_mut.result.now c.in-Some.leaf c.deref_mut.result.now c.index-deref_mut-place.result c.release.new.self c.index_mut.ensures.value c.in-Some.is c.deref_mut.ensures.value
    c.len-rows.ensures.sound (c.release.ensures.low ∙ c.prune-records.ensures.pruned.low) (c.release.ensures.high ∙ c.prune-records.ensures.pruned.high)).kept in
    stands_leaf c.self.inside.index _ c.place_near-place.result.leaf kept (place_stands c.self.inside.index c.self.inside.leaves.items c.args.key c.place_near-place.result c.self.invariant.kept c.place_near-place.ensures c.requires.within)

pub queue_change-requires-clause-within : goal.queue_change-requires-clause-within
queue_change-requires-clause-within g c =
    omega (arith, is_within c.self.inside.index c.self.inside.leaves.items c.args.self.now c.args.key c.place_near-place.result c.self.view_is c.self.invariant.kept c.place_near-place.ensures c.requires.within, c.self.invariant.kept.count, c.self.invariant.count)

pub invariant_of-self : goal.invariant_of-self
invariant_of-self g c =
    let kept = (changed_cell c.self.inside.index c.self.inside.leaves.items c.args.self.now c.args.key c.place_near-place.result c.self.view_is c.self.invariant.kept c.place_near-place.ensures c.requires.within
    c.index_mut.result.now c.in-Some.leaf c.deref_mut.result.now c.index-deref_mut-place.result c.release.new.self c.index_mut.ensures.value c.in-Some.is c.deref_mut.ensures.value
    c.len-rows.ensures.sound (c.release.ensures.low ∙ c.prune-records.ensures.pruned.low) (c.release.ensures.high ∙ c.prune-records.ensures.pruned.high)).kept in
    tended_change c.self.inside.index c.self.inside.leaves.items c.args.key c.place_near-place.result c.self.invariant.kept c.place_near-place.ensures c.requires.within c.index_mut.result.now c.in-Some.leaf c.deref_mut.result.now c.index-deref_mut-place.result c.release.new.self c.index_mut.ensures.value c.in-Some.is c.deref_mut.ensures.value
    c.self.inside.queue c.queue_change.new.queue c.len-before.result c.len-rows.result c.len-before.ensures.len c.len-rows.ensures.len (c.release.ensures.low ∙ c.prune-records.ensures.pruned.low) c.queue_change.ensures kept c.self.invariant

pub returns-clause-pruned : goal.returns-clause-pruned
returns-clause-pruned g c =
    let changed = changed_cell c.self.inside.index c.self.inside.leaves.items c.args.self.now c.args.key c.place_near-place.result c.self.view_is c.self.invariant.kept c.place_near-place.ensures c.requires.within
    c.index_mut.result.now c.in-Some.leaf c.deref_mut.result.now c.index-deref_mut-place.result c.release.new.self c.index_mut.ensures.value c.in-Some.is c.deref_mut.ensures.value
    c.len-rows.ensures.sound (c.release.ensures.low ∙ c.prune-records.ensures.pruned.low) (c.release.ensures.high ∙ c.prune-records.ensures.pruned.high) in
    only_pruned c.self.inside.index c.self.inside.leaves.items _ c.args.self.now c.args.key _ _ c.self.view_is c.self.invariant.kept changed (g.S.States.knowledge c.args.states.now).stamps c.args.horizon _
    (record {
      low = c.release.ensures.low ∙ c.prune-records.ensures.pruned.low;
      high = c.release.ensures.high ∙ c.prune-records.ensures.pruned.high;
      rows = c.release.ensures.rows ∙ c.prune-records.ensures.pruned.rows;
    })
    (ap (λ rows. c.prune-records.result + all_records rows) c.release.ensures.rows ∙ c.prune-records.ensures.went) (c.high-high.ensures ∙ c.release.ensures.high ∙ c.prune-records.ensures.pruned.high)
