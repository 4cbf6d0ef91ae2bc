use Rattle.std.proofs.Common.{length, sym, ◌∙◌, ap}
use Rattle.std.proofs.lemmas.List.{length-replicate}
use Rattle.leaf_index.specs.Index.{Index}
use Rattle.leaf_store.proofs.NewLemmas.{is_new}
use Rattle.leaf_store.proofs.QueueLemmas.{nobody}
use Rattle.leaf_store.proofs.TendLemmas.{thin_tended}
use Rattle.leaf_store.proofs.store.LeafStore.new.Goals as goal

pub returns : goal.returns
returns c =
    (is_new c.args.leaves c.in_ok-index.index c.put_leaf.new.table.items c.in_ok-first.first c.in_ok-memory.memory c.in_ok-table.table.items c.requires.some c.in_ok-index.ensures c.is_index.ensures.index
    c.in_ok-first.ensures c.cuts_of-cuts.ensures.sound c.in_ok-memory.ensures.ok c.in_ok-table.ensures c.put_leaf.ensures).are

pub queue_thin-requires-clause-kept : goal.queue_thin-requires-clause-kept
queue_thin-requires-clause-kept c =
    (is_new c.args.leaves c.in_ok-index.index c.put_leaf.new.table.items c.in_ok-first.first c.in_ok-memory.memory c.in_ok-table.table.items c.requires.some c.in_ok-index.ensures c.is_index.ensures.index
    c.in_ok-first.ensures c.cuts_of-cuts.ensures.sound c.in_ok-memory.ensures.ok c.in_ok-table.ensures c.put_leaf.ensures).kept

pub queue_thin-requires-clause-count : goal.queue_thin-requires-clause-count
queue_thin-requires-clause-count c =
    let kept = (is_new c.args.leaves c.in_ok-index.index c.put_leaf.new.table.items c.in_ok-first.first c.in_ok-memory.memory c.in_ok-table.table.items c.requires.some c.in_ok-index.ensures c.is_index.ensures.index
    c.in_ok-first.ensures c.cuts_of-cuts.ensures.sound c.in_ok-memory.ensures.ok c.in_ok-table.ensures c.put_leaf.ensures).kept in
    ap length c.in_ok-queue.ensures ∙ length-replicate c.args.leaves nobody ∙ sym (kept.count ∙ ap (λ (i : Index). i.leaves) c.in_ok-index.ensures)

pub invariant_of-result : goal.invariant_of-result
invariant_of-result c =
    let kept = (is_new c.args.leaves c.in_ok-index.index c.put_leaf.new.table.items c.in_ok-first.first c.in_ok-memory.memory c.in_ok-table.table.items c.requires.some c.in_ok-index.ensures c.is_index.ensures.index
    c.in_ok-first.ensures c.cuts_of-cuts.ensures.sound c.in_ok-memory.ensures.ok c.in_ok-table.ensures c.put_leaf.ensures).kept in
    thin_tended c.in_ok-index.index c.put_leaf.new.table.items c.queue_thin.new.queue kept
    (c.queue_thin.ensures.count ∙ ap length c.in_ok-queue.ensures ∙ length-replicate c.args.leaves nobody ∙ sym (ap (λ (i : Index). i.leaves) c.in_ok-index.ensures)) c.queue_thin.ensures.each
