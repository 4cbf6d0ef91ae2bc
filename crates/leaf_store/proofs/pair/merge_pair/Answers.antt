use Rattle.std.proofs.Common.{Some, sym, ◌∙◌, ap, subst, arith}
use Rattle.std.specs.Box.{with_value}
use Rattle.leaf_table.specs.LeafArray.Segments.{AreSame, records_of}
use Rattle.leaf_store.specs.Merging.{Compacts, KeepsParts}
use Rattle.leaf_store.specs.Pairs.{AreNeighbours, MergesEntries}
use Rattle.leaf_store.specs.Table.{IsKept, leaves_of, segments_at}
use Rattle.leaf_store.proofs.PairLemmas.{after_count, after_left, after_others, again_count, again_left, again_others, again_right, few_rows_in, left_read, left_stands, merges_leaf, mid_some, neighbours, pair_kept, pair_merged, pair_settled, pair_stays, right_stands, right_there}
use Rattle.leaf_store.proofs.RoomLemmas.{stands_memory, stands_segments, stands_within}
use Rattle.leaf_store.proofs.pair.merge_pair.Goals as goal

pub index_mut-requires : goal.index_mut-requires
index_mut-requires c =
    omega (arith, stands_within c.args.index.now c.args.leaves.now.items c.args.pair.right c.requires.kept (right_stands c.args.index.now c.args.leaves.now.items c.args.pair c.requires.kept c.requires.pair.found))

pub unreachable-requires : goal.unreachable-requires
unreachable-requires c =
    stands_memory c.args.index.now c.args.leaves.now.items c.args.pair.right c.requires.kept (right_stands c.args.index.now c.args.leaves.now.items c.args.pair c.requires.kept c.requires.pair.found)
    c.index_mut.result.now c.index_mut.ensures.value (sym c.replace.ensures.value ∙ c.in_default.is)

pub index_mut-requires-2 : goal.index_mut-requires-2
index_mut-requires-2 c =
    omega (arith, stands_within c.args.index.now c.args.leaves.now.items c.args.pair.left c.requires.kept (left_stands c.args.index.now c.args.leaves.now.items c.args.pair c.requires.kept c.requires.pair.found))

pub unreachable-requires-in-None : goal.unreachable-requires-in-None
unreachable-requires-in-None c =
    mid_some c.args.index.now c.args.leaves.now.items c.args.pair c.requires.kept c.requires.pair.found c.replace.new.dest c.index_mut-2.result.now c.index_mut-2.ensures.value c.in-None.is

pub merge_entries-merged-requires-clause-live : goal.merge_entries-merged-requires-clause-live
merge_entries-merged-requires-clause-live c =
    neighbours c.args.index.now c.args.leaves.now.items c.args.pair c.requires.kept c.requires.pair.found _ _
    (left_read c.args.index.now c.args.leaves.now.items c.args.pair c.requires.kept c.requires.pair.found c.replace.new.dest c.index_mut-2.result.now c.in-Some-index_mut.left c.deref_mut.result.now c.index_mut-2.ensures.value c.in-Some-index_mut.is c.deref_mut.ensures.value)
    (stands_segments c.args.index.now c.args.leaves.now.items c.args.pair.right c.requires.kept (right_stands c.args.index.now c.args.leaves.now.items c.args.pair c.requires.kept c.requires.pair.found)
    c.index_mut.result.now c.in-Some.right c.deref_mut-in-Some-index_mut.result.now c.index_mut.ensures.value (sym c.replace.ensures.value ∙ c.in-Some.is) c.deref_mut-in-Some-index_mut.ensures.value)

pub merge_entries-merged-requires-clause-few : goal.merge_entries-merged-requires-clause-few
merge_entries-merged-requires-clause-few c =
    few_rows_in c.args.index.now c.args.leaves.now.items c.args.pair c.requires.kept c.requires.pair.found _ _
    (left_read c.args.index.now c.args.leaves.now.items c.args.pair c.requires.kept c.requires.pair.found c.replace.new.dest c.index_mut-2.result.now c.in-Some-index_mut.left c.deref_mut.result.now c.index_mut-2.ensures.value c.in-Some-index_mut.is c.deref_mut.ensures.value)
    (stands_segments c.args.index.now c.args.leaves.now.items c.args.pair.right c.requires.kept (right_stands c.args.index.now c.args.leaves.now.items c.args.pair c.requires.kept c.requires.pair.found)
    c.index_mut.result.now c.in-Some.right c.deref_mut-in-Some-index_mut.result.now c.index_mut.ensures.value (sym c.replace.ensures.value ∙ c.in-Some.is) c.deref_mut-in-Some-index_mut.ensures.value)

pub put_leaf-requires : goal.put_leaf-requires
put_leaf-requires c = right_there c.args.index.now c.args.leaves.now.items c.args.pair c.requires.kept c.requires.pair.found c.replace.new.dest _

pub returns-in-Ok-clause-kept : goal.returns-in-Ok-clause-kept
returns-in-Ok-clause-kept c =
    let left = (left_read c.args.index.now c.args.leaves.now.items c.args.pair c.requires.kept c.requires.pair.found c.replace.new.dest c.index_mut-2.result.now c.in-Some-index_mut.left c.deref_mut.result.now c.index_mut-2.ensures.value c.in-Some-index_mut.is c.deref_mut.ensures.value) in
    let right = (stands_segments c.args.index.now c.args.leaves.now.items c.args.pair.right c.requires.kept (right_stands c.args.index.now c.args.leaves.now.items c.args.pair c.requires.kept c.requires.pair.found)
    c.index_mut.result.now c.in-Some.right c.deref_mut-in-Some-index_mut.result.now c.index_mut.ensures.value (sym c.replace.ensures.value ∙ c.in-Some.is) c.deref_mut-in-Some-index_mut.ensures.value) in
    (pair_merged c.args.index.now c.args.leaves.now.items c.args.pair c.requires.kept c.requires.pair.found c.merge_entries-merged.new.index _ c.args.stamp c.merge_entries-merged.new.left.segments c.requires.stamp (after_others c.args.index.now c.args.leaves.now.items c.args.pair c.requires.kept c.requires.pair.found c.replace.new.dest (Some (with_value c.in-Some-index_mut.left c.merge_entries-merged.new.left)))
    (after_left c.args.index.now c.args.leaves.now.items c.args.pair c.requires.kept c.requires.pair.found c.replace.new.dest (Some (with_value c.in-Some-index_mut.left c.merge_entries-merged.new.left))) (after_count c.args.index.now c.args.leaves.now.items c.args.pair c.requires.kept c.requires.pair.found c.replace.new.dest (Some (with_value c.in-Some-index_mut.left c.merge_entries-merged.new.left))) c.in-Ok.ensures.sound c.is_index.ensures.index
    (subst (λ ts. (live : AreNeighbours c.args.index.now.entries (segments_at c.args.leaves.now.items c.args.pair.left) ts c.args.pair.right) → MergesEntries c.args.stamp c.args.pair.right c.args.index.now c.merge_entries-merged.new.index (segments_at c.args.leaves.now.items c.args.pair.left) ts c.merge_entries-merged.new.left.segments live) (sym right)
    (subst (λ ss. (live : AreNeighbours c.args.index.now.entries ss c.deref_mut-in-Some-index_mut.result.now.segments c.args.pair.right) → MergesEntries c.args.stamp c.args.pair.right c.args.index.now c.merge_entries-merged.new.index ss c.deref_mut-in-Some-index_mut.result.now.segments c.merge_entries-merged.new.left.segments live) (sym left) c.in-Ok.ensures.ok))).0

pub returns-in-Ok-clause-compacts : goal.returns-in-Ok-clause-compacts
returns-in-Ok-clause-compacts c =
    let left = (left_read c.args.index.now c.args.leaves.now.items c.args.pair c.requires.kept c.requires.pair.found c.replace.new.dest c.index_mut-2.result.now c.in-Some-index_mut.left c.deref_mut.result.now c.index_mut-2.ensures.value c.in-Some-index_mut.is c.deref_mut.ensures.value) in
    let right = (stands_segments c.args.index.now c.args.leaves.now.items c.args.pair.right c.requires.kept (right_stands c.args.index.now c.args.leaves.now.items c.args.pair c.requires.kept c.requires.pair.found)
    c.index_mut.result.now c.in-Some.right c.deref_mut-in-Some-index_mut.result.now c.index_mut.ensures.value (sym c.replace.ensures.value ∙ c.in-Some.is) c.deref_mut-in-Some-index_mut.ensures.value) in
    (pair_merged c.args.index.now c.args.leaves.now.items c.args.pair c.requires.kept c.requires.pair.found c.merge_entries-merged.new.index _ c.args.stamp c.merge_entries-merged.new.left.segments c.requires.stamp (after_others c.args.index.now c.args.leaves.now.items c.args.pair c.requires.kept c.requires.pair.found c.replace.new.dest (Some (with_value c.in-Some-index_mut.left c.merge_entries-merged.new.left)))
    (after_left c.args.index.now c.args.leaves.now.items c.args.pair c.requires.kept c.requires.pair.found c.replace.new.dest (Some (with_value c.in-Some-index_mut.left c.merge_entries-merged.new.left))) (after_count c.args.index.now c.args.leaves.now.items c.args.pair c.requires.kept c.requires.pair.found c.replace.new.dest (Some (with_value c.in-Some-index_mut.left c.merge_entries-merged.new.left))) c.in-Ok.ensures.sound c.is_index.ensures.index
    (subst (λ ts. (live : AreNeighbours c.args.index.now.entries (segments_at c.args.leaves.now.items c.args.pair.left) ts c.args.pair.right) → MergesEntries c.args.stamp c.args.pair.right c.args.index.now c.merge_entries-merged.new.index (segments_at c.args.leaves.now.items c.args.pair.left) ts c.merge_entries-merged.new.left.segments live) (sym right)
    (subst (λ ss. (live : AreNeighbours c.args.index.now.entries ss c.deref_mut-in-Some-index_mut.result.now.segments c.args.pair.right) → MergesEntries c.args.stamp c.args.pair.right c.args.index.now c.merge_entries-merged.new.index ss c.deref_mut-in-Some-index_mut.result.now.segments c.merge_entries-merged.new.left.segments live) (sym left) c.in-Ok.ensures.ok))).1

pub returns-in-Err-clause-kept : goal.returns-in-Err-clause-kept
returns-in-Err-clause-kept c =
    let left = (left_read c.args.index.now c.args.leaves.now.items c.args.pair c.requires.kept c.requires.pair.found c.replace.new.dest c.index_mut-2.result.now c.in-Some-index_mut.left c.deref_mut.result.now c.index_mut-2.ensures.value c.in-Some-index_mut.is c.deref_mut.ensures.value) in
    let right = (stands_segments c.args.index.now c.args.leaves.now.items c.args.pair.right c.requires.kept (right_stands c.args.index.now c.args.leaves.now.items c.args.pair c.requires.kept c.requires.pair.found)
    c.index_mut.result.now c.in-Some.right c.deref_mut-in-Some-index_mut.result.now c.index_mut.ensures.value (sym c.replace.ensures.value ∙ c.in-Some.is) c.deref_mut-in-Some-index_mut.ensures.value) in
    subst (IsKept c.merge_entries-merged.new.index) (sym c.put_leaf.ensures) (pair_kept c.args.index.now c.args.leaves.now.items c.args.pair c.requires.kept c.requires.pair.found c.merge_entries-merged.new.index _ c.args.stamp c.in-Err.ensures.err.same (again_others c.args.index.now c.args.leaves.now.items c.args.pair c.requires.kept c.requires.pair.found c.replace.new.dest (Some (with_value c.in-Some-index_mut.left c.merge_entries-merged.new.left)) (Some (with_value c.in-Some.right c.merge_entries-merged.new.right)))
    (again_count c.args.index.now c.args.leaves.now.items c.args.pair c.requires.kept c.requires.pair.found c.replace.new.dest (Some (with_value c.in-Some-index_mut.left c.merge_entries-merged.new.left)) (Some (with_value c.in-Some.right c.merge_entries-merged.new.right)))
    (subst (AreSame (segments_at c.args.leaves.now.items c.args.pair.left)) (sym (again_left c.args.index.now c.args.leaves.now.items c.args.pair c.requires.kept c.requires.pair.found c.replace.new.dest (Some (with_value c.in-Some-index_mut.left c.merge_entries-merged.new.left)) (Some (with_value c.in-Some.right c.merge_entries-merged.new.right)))) (subst (λ ss. AreSame ss c.merge_entries-merged.new.left.segments) (sym left) c.in-Err.ensures.err.left))
    (subst (AreSame (segments_at c.args.leaves.now.items c.args.pair.right)) (sym (again_right c.args.index.now c.args.leaves.now.items c.args.pair c.requires.kept c.requires.pair.found c.replace.new.dest (Some (with_value c.in-Some-index_mut.left c.merge_entries-merged.new.left)) (Some (with_value c.in-Some.right c.merge_entries-merged.new.right)))) (subst (λ ss. AreSame ss c.merge_entries-merged.new.right.segments) (sym right) c.in-Err.ensures.err.right))).0

pub returns-in-Err-clause-compacts : goal.returns-in-Err-clause-compacts
returns-in-Err-clause-compacts c =
    let left = (left_read c.args.index.now c.args.leaves.now.items c.args.pair c.requires.kept c.requires.pair.found c.replace.new.dest c.index_mut-2.result.now c.in-Some-index_mut.left c.deref_mut.result.now c.index_mut-2.ensures.value c.in-Some-index_mut.is c.deref_mut.ensures.value) in
    let right = (stands_segments c.args.index.now c.args.leaves.now.items c.args.pair.right c.requires.kept (right_stands c.args.index.now c.args.leaves.now.items c.args.pair c.requires.kept c.requires.pair.found)
    c.index_mut.result.now c.in-Some.right c.deref_mut-in-Some-index_mut.result.now c.index_mut.ensures.value (sym c.replace.ensures.value ∙ c.in-Some.is) c.deref_mut-in-Some-index_mut.ensures.value) in
    subst (λ t. Compacts (leaves_of c.args.index.now c.args.leaves.now.items) (leaves_of c.merge_entries-merged.new.index t) c.args.stamp) (sym c.put_leaf.ensures) (pair_kept c.args.index.now c.args.leaves.now.items c.args.pair c.requires.kept c.requires.pair.found c.merge_entries-merged.new.index _ c.args.stamp c.in-Err.ensures.err.same (again_others c.args.index.now c.args.leaves.now.items c.args.pair c.requires.kept c.requires.pair.found c.replace.new.dest (Some (with_value c.in-Some-index_mut.left c.merge_entries-merged.new.left)) (Some (with_value c.in-Some.right c.merge_entries-merged.new.right)))
    (again_count c.args.index.now c.args.leaves.now.items c.args.pair c.requires.kept c.requires.pair.found c.replace.new.dest (Some (with_value c.in-Some-index_mut.left c.merge_entries-merged.new.left)) (Some (with_value c.in-Some.right c.merge_entries-merged.new.right)))
    (subst (AreSame (segments_at c.args.leaves.now.items c.args.pair.left)) (sym (again_left c.args.index.now c.args.leaves.now.items c.args.pair c.requires.kept c.requires.pair.found c.replace.new.dest (Some (with_value c.in-Some-index_mut.left c.merge_entries-merged.new.left)) (Some (with_value c.in-Some.right c.merge_entries-merged.new.right)))) (subst (λ ss. AreSame ss c.merge_entries-merged.new.left.segments) (sym left) c.in-Err.ensures.err.left))
    (subst (AreSame (segments_at c.args.leaves.now.items c.args.pair.right)) (sym (again_right c.args.index.now c.args.leaves.now.items c.args.pair c.requires.kept c.requires.pair.found c.replace.new.dest (Some (with_value c.in-Some-index_mut.left c.merge_entries-merged.new.left)) (Some (with_value c.in-Some.right c.merge_entries-merged.new.right)))) (subst (λ ss. AreSame ss c.merge_entries-merged.new.right.segments) (sym right) c.in-Err.ensures.err.right))).1

pub returns-in-Ok-clause-ok : goal.returns-in-Ok-clause-ok
returns-in-Ok-clause-ok c =
    let left = (left_read c.args.index.now c.args.leaves.now.items c.args.pair c.requires.kept c.requires.pair.found c.replace.new.dest c.index_mut-2.result.now c.in-Some-index_mut.left c.deref_mut.result.now c.index_mut-2.ensures.value c.in-Some-index_mut.is c.deref_mut.ensures.value) in
    let right = (stands_segments c.args.index.now c.args.leaves.now.items c.args.pair.right c.requires.kept (right_stands c.args.index.now c.args.leaves.now.items c.args.pair c.requires.kept c.requires.pair.found)
    c.index_mut.result.now c.in-Some.right c.deref_mut-in-Some-index_mut.result.now c.index_mut.ensures.value (sym c.replace.ensures.value ∙ c.in-Some.is) c.deref_mut-in-Some-index_mut.ensures.value) in
    merges_leaf c.args.index.now c.args.leaves.now.items c.args.pair c.requires.kept c.requires.pair.found c.requires.pair.level c.requires.pair.apart c.merge_entries-merged.new.index _ c.args.stamp c.merge_entries-merged.new.left.segments (after_others c.args.index.now c.args.leaves.now.items c.args.pair c.requires.kept c.requires.pair.found c.replace.new.dest (Some (with_value c.in-Some-index_mut.left c.merge_entries-merged.new.left)))
    (after_left c.args.index.now c.args.leaves.now.items c.args.pair c.requires.kept c.requires.pair.found c.replace.new.dest (Some (with_value c.in-Some-index_mut.left c.merge_entries-merged.new.left)))
    (subst (λ ts. (live : AreNeighbours c.args.index.now.entries (segments_at c.args.leaves.now.items c.args.pair.left) ts c.args.pair.right) → MergesEntries c.args.stamp c.args.pair.right c.args.index.now c.merge_entries-merged.new.index (segments_at c.args.leaves.now.items c.args.pair.left) ts c.merge_entries-merged.new.left.segments live) (sym right)
    (subst (λ ss. (live : AreNeighbours c.args.index.now.entries ss c.deref_mut-in-Some-index_mut.result.now.segments c.args.pair.right) → MergesEntries c.args.stamp c.args.pair.right c.args.index.now c.merge_entries-merged.new.index ss c.deref_mut-in-Some-index_mut.result.now.segments c.merge_entries-merged.new.left.segments live) (sym left) c.in-Ok.ensures.ok))

pub returns-in-Err-clause-err : goal.returns-in-Err-clause-err
returns-in-Err-clause-err c =
    let left = (left_read c.args.index.now c.args.leaves.now.items c.args.pair c.requires.kept c.requires.pair.found c.replace.new.dest c.index_mut-2.result.now c.in-Some-index_mut.left c.deref_mut.result.now c.index_mut-2.ensures.value c.in-Some-index_mut.is c.deref_mut.ensures.value) in
    let right = (stands_segments c.args.index.now c.args.leaves.now.items c.args.pair.right c.requires.kept (right_stands c.args.index.now c.args.leaves.now.items c.args.pair c.requires.kept c.requires.pair.found)
    c.index_mut.result.now c.in-Some.right c.deref_mut-in-Some-index_mut.result.now c.index_mut.ensures.value (sym c.replace.ensures.value ∙ c.in-Some.is) c.deref_mut-in-Some-index_mut.ensures.value) in
    subst (λ t. KeepsParts (leaves_of c.args.index.now c.args.leaves.now.items) (leaves_of c.merge_entries-merged.new.index t)) (sym c.put_leaf.ensures) (pair_stays c.args.index.now c.args.leaves.now.items c.args.pair c.requires.kept c.requires.pair.found c.merge_entries-merged.new.index _ c.in-Err.ensures.err.same (again_others c.args.index.now c.args.leaves.now.items c.args.pair c.requires.kept c.requires.pair.found c.replace.new.dest (Some (with_value c.in-Some-index_mut.left c.merge_entries-merged.new.left)) (Some (with_value c.in-Some.right c.merge_entries-merged.new.right)))
    (subst (AreSame (segments_at c.args.leaves.now.items c.args.pair.left)) (sym (again_left c.args.index.now c.args.leaves.now.items c.args.pair c.requires.kept c.requires.pair.found c.replace.new.dest (Some (with_value c.in-Some-index_mut.left c.merge_entries-merged.new.left)) (Some (with_value c.in-Some.right c.merge_entries-merged.new.right)))) (subst (λ ss. AreSame ss c.merge_entries-merged.new.left.segments) (sym left) c.in-Err.ensures.err.left))
    (subst (AreSame (segments_at c.args.leaves.now.items c.args.pair.right)) (sym (again_right c.args.index.now c.args.leaves.now.items c.args.pair c.requires.kept c.requires.pair.found c.replace.new.dest (Some (with_value c.in-Some-index_mut.left c.merge_entries-merged.new.left)) (Some (with_value c.in-Some.right c.merge_entries-merged.new.right)))) (subst (λ ss. AreSame ss c.merge_entries-merged.new.right.segments) (sym right) c.in-Err.ensures.err.right)))

pub returns-in-Err-clause-settled : goal.returns-in-Err-clause-settled
returns-in-Err-clause-settled c = λ none.
    let left = (left_read c.args.index.now c.args.leaves.now.items c.args.pair c.requires.kept c.requires.pair.found c.replace.new.dest c.index_mut-2.result.now c.in-Some-index_mut.left c.deref_mut.result.now c.index_mut-2.ensures.value c.in-Some-index_mut.is c.deref_mut.ensures.value) in
    let right = (stands_segments c.args.index.now c.args.leaves.now.items c.args.pair.right c.requires.kept (right_stands c.args.index.now c.args.leaves.now.items c.args.pair c.requires.kept c.requires.pair.found)
    c.index_mut.result.now c.in-Some.right c.deref_mut-in-Some-index_mut.result.now c.index_mut.ensures.value (sym c.replace.ensures.value ∙ c.in-Some.is) c.deref_mut-in-Some-index_mut.ensures.value) in
    let both = pair_settled c.args.index.now c.args.leaves.now.items c.args.pair c.requires.kept c.requires.pair.found none in
    c.in-Err.ensures.settled (sym (ap records_of left) ∙ both.0) (sym (ap records_of right) ∙ both.1)
