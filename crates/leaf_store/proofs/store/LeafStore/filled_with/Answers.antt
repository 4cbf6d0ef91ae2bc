use Rattle.std.proofs.Common.{length, sym, ◌∙◌, ap}
use Rattle.leaf_store.proofs.QueueLemmas.{nobody}
use Rattle.std.proofs.lemmas.List.{length-replicate}
use Rattle.leaf_index.specs.Index.{Index}
use Rattle.leaf_store.specs.Changes.{IsFillRefusal}
use Rattle.leaf_store.proofs.FillEndLemmas.{fill_refused, first_leaf, handed_on, is_filled, next_leaves}
use Rattle.leaf_store.proofs.TendLemmas.{thin_tended}
use Rattle.leaf_store.proofs.store.LeafStore.filled_with.Goals as goal

pub fill_first-requires-clause-first : goal.fill_first-requires-clause-first
fill_first-requires-clause-first c = (c.requires.made.0, first_leaf c.requires.made.0 c.args.made c.requires.made.1)

pub fill_rest-requires : goal.fill_rest-requires
fill_rest-requires c =
    let rows = c.requires.made.0 in
    let is = c.requires.made.1 in
    (rows, next_leaves rows c.args.made c.saturating_sub-left.result c.fill_first.new.index c.fill_first.new.leaves.items is c.saturating_sub-left.ensures (c.fill_first.ensures.laid rows (first_leaf rows c.args.made is)))

pub invariant_of-result : goal.invariant_of-result
invariant_of-result c =
    let rows = c.requires.made.0 in
    let is = c.requires.made.1 in
    let next = next_leaves rows c.args.made c.saturating_sub-left.result c.fill_first.new.index c.fill_first.new.leaves.items is c.saturating_sub-left.ensures (c.fill_first.ensures.laid rows (first_leaf rows c.args.made is)) in
    let limit = c.in_ok-fill_rest.ensures.limit ∙ c.fill_first.ensures.limit ∙ ap (λ (i : Index). i.leaves) c.in_ok-index.ensures in
    let kept = (is_filled c.args.leaves rows c.fill_rest.new.index c.fill_rest.new.leaves.items (c.in_ok-fill_rest.ensures.ok rows next) limit).kept in
    thin_tended c.fill_rest.new.index c.fill_rest.new.leaves.items c.queue_thin.new.queue kept (c.queue_thin.ensures.count ∙ ap length c.in_ok-queue.ensures ∙ length-replicate c.args.leaves nobody ∙ sym limit) c.queue_thin.ensures.each

pub queue_thin-requires-clause-kept : goal.queue_thin-requires-clause-kept
queue_thin-requires-clause-kept c =
    let rows = c.requires.made.0 in
    let is = c.requires.made.1 in
    let next = next_leaves rows c.args.made c.saturating_sub-left.result c.fill_first.new.index c.fill_first.new.leaves.items is c.saturating_sub-left.ensures (c.fill_first.ensures.laid rows (first_leaf rows c.args.made is)) in
    (is_filled c.args.leaves rows c.fill_rest.new.index c.fill_rest.new.leaves.items (c.in_ok-fill_rest.ensures.ok rows next) (c.in_ok-fill_rest.ensures.limit ∙ c.fill_first.ensures.limit ∙ ap (λ (i : Index). i.leaves) c.in_ok-index.ensures)).kept

pub queue_thin-requires-clause-count : goal.queue_thin-requires-clause-count
queue_thin-requires-clause-count c =
    let rows = c.requires.made.0 in
    let is = c.requires.made.1 in
    let next = next_leaves rows c.args.made c.saturating_sub-left.result c.fill_first.new.index c.fill_first.new.leaves.items is c.saturating_sub-left.ensures (c.fill_first.ensures.laid rows (first_leaf rows c.args.made is)) in
    let limit = c.in_ok-fill_rest.ensures.limit ∙ c.fill_first.ensures.limit ∙ ap (λ (i : Index). i.leaves) c.in_ok-index.ensures in
    let kept = (is_filled c.args.leaves rows c.fill_rest.new.index c.fill_rest.new.leaves.items (c.in_ok-fill_rest.ensures.ok rows next) limit).kept in
    ap length c.in_ok-queue.ensures ∙ length-replicate c.args.leaves nobody ∙ sym (kept.count ∙ limit)

pub returns-clause-ok : goal.returns-clause-ok
returns-clause-ok c = λ rows is.
    let next = next_leaves rows c.args.made c.saturating_sub-left.result c.fill_first.new.index c.fill_first.new.leaves.items is c.saturating_sub-left.ensures (c.fill_first.ensures.laid rows (first_leaf rows c.args.made is)) in
    (is_filled c.args.leaves rows c.fill_rest.new.index c.fill_rest.new.leaves.items (c.in_ok-fill_rest.ensures.ok rows next) (c.in_ok-fill_rest.ensures.limit ∙ c.fill_first.ensures.limit ∙ ap (λ (i : Index). i.leaves) c.in_ok-index.ensures)).are

pub returns-in_err-fill_rest-clause-full : goal.returns-in_err-fill_rest-clause-full
returns-in_err-fill_rest-clause-full c = λ rows is.
    let next = next_leaves rows c.args.made c.saturating_sub-left.result c.fill_first.new.index c.fill_first.new.leaves.items is c.saturating_sub-left.ensures (c.fill_first.ensures.laid rows (first_leaf rows c.args.made is)) in
    let why = fill_refused c.args.leaves rows c.fill_first.new.index (c.fill_first.ensures.limit ∙ ap (λ (i : Index). i.leaves) c.in_ok-index.ensures) c.in_err-fill_rest.field-0.0 (c.in_err-fill_rest.ensures.stop rows next) in
    handed_on c.from_residual-in_err-fill_rest.result c.in_err-fill_rest.field-0.0 (λ refusal. IsFillRefusal c.args.leaves rows refusal) c.from_residual-in_err-fill_rest.ensures.1 why
