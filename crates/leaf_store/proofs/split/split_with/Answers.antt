use Rattle.std.proofs.Common.{◌≤◌, length, refl, subst, arith}
use Rattle.leaf_table.specs.LeafArray.Segments.{rows_of}
use Rattle.leaf_store.specs.Ranges.{IsLive}
use Rattle.leaf_store.proofs.SplitLemmas.{always_err, full_memory, full_segments, full_within, keeps_leaves, live_apart, nothing_kept, splits_leaf}
use Rattle.leaf_store.proofs.split.split_with.Goals as goal

pub returns-in_err-right-clause-err : goal.returns-in_err-right-clause-err
returns-in_err-right-clause-err c =
    always_err _ c.from_residual.result (record { same = refl; keeps = nothing_kept c.args.leaves.now.items c.args.leaf })

pub index_mut-requires : goal.index_mut-requires
index_mut-requires c = omega (arith, full_within c.args.leaves.now.items c.args.leaf c.requires.many)

pub unreachable-requires : goal.unreachable-requires
unreachable-requires c = full_memory c.args.leaves.now.items c.args.leaf c.requires.many c.index_mut.result.now c.index_mut.ensures.value c.in-None.is

pub split_entry-requires-clause-live : goal.split_entry-requires-clause-live
split_entry-requires-clause-live c =
    subst (IsLive c.args.index.now.entries) (full_segments c.args.leaves.now.items c.args.leaf c.requires.many c.index_mut.result.now c.in-Some.left c.deref_mut.result.now c.index_mut.ensures.value c.in-Some.is c.deref_mut.ensures.value) c.requires.live

pub split_entry-requires-clause-many : goal.split_entry-requires-clause-many
split_entry-requires-clause-many c =
    subst (λ ss. 207 ≤ length (rows_of ss)) (full_segments c.args.leaves.now.items c.args.leaf c.requires.many c.index_mut.result.now c.in-Some.left c.deref_mut.result.now c.index_mut.ensures.value c.in-Some.is c.deref_mut.ensures.value) c.requires.many

pub returns-in_err-split_entry-in-Some-clause-err : goal.returns-in_err-split_entry-in-Some-clause-err
returns-in_err-split_entry-in-Some-clause-err c =
    let keeps = keeps_leaves c.args.leaves.now.items c.args.leaf c.requires.many c.in-Some.left c.deref_mut.result.now c.split_entry.new.left
    (full_segments c.args.leaves.now.items c.args.leaf c.requires.many c.index_mut.result.now c.in-Some.left c.deref_mut.result.now c.index_mut.ensures.value c.in-Some.is c.deref_mut.ensures.value) c.in_err-split_entry-in-Some.ensures.same in
    always_err _ c.from_residual-in_err-split_entry-in-Some.result (record { same = c.in_err-split_entry-in-Some.ensures.err; keeps = keeps })

pub returns-clause-ok : goal.returns-clause-ok
returns-clause-ok c = λ live number.
    splits_leaf c.args.leaves.now.items c.args.leaf c.requires.many c.args.index.now c.split_entry.new.index c.args.other c.in-Some.left _ c.deref_mut.result.now c.split_entry.new.left c.put_leaf.new.table.items
    (full_segments c.args.leaves.now.items c.args.leaf c.requires.many c.index_mut.result.now c.in-Some.left c.deref_mut.result.now c.index_mut.ensures.value c.in-Some.is c.deref_mut.ensures.value)
    (omega (arith, c.requires.count, c.requires.taken.exists)) (live_apart c.args.index.now c.args.leaf c.args.other _ live number c.requires.taken) c.put_leaf.ensures c.in_ok-split_entry-in-Some.ensures.ok c.in_ok-split_entry-in-Some.ensures.left c.in_ok-split_entry-in-Some.ensures.right c.split_entry.ensures.others live number
