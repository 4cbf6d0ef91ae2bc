use Rattle.std.proofs.Common.{refl, sym, ◌∙◌, arith}
use Rattle.leaf_store.proofs.WorkLemmas.{live_low, other_leaf_there, other_low_there}
use Rattle.leaf_store.proofs.queue.live_range.Goals as goal

pub returns-then-range-waiting-clause-none : goal.returns-then-range-waiting-clause-none
returns-then-range-waiting-clause-none c = λ none.
    other_leaf_there c.args.index.now c.args.leaves.now.items c.requires c.args.waiting.low c.leaf_at-range.result c.leaf_at-range.ensures c.args.waiting refl (λ same. absurd (omega (arith, same, c.if-range-waiting.true)))

pub returns-then-is_below-clause-none : goal.returns-then-is_below-clause-none
returns-then-is_below-clause-none c = λ none.
    other_low_there c.args.index.now c.args.leaves.now.items c.requires c.args.waiting.low c.leaf_at-range.result c.leaf_at-range.ensures c.args.waiting refl (sym c.is_below.ensures ∙ c.if-is_below.true)

pub returns-clause-low : goal.returns-clause-low
returns-clause-low c =
    live_low c.args.index.now c.args.leaves.now.items c.requires c.args.waiting.low c.leaf_at-range.result c.leaf_at-range.ensures (sym c.is_below.ensures ∙ c.if-is_below.false)
