use Rattle.leaf_array.proofs.StayLemmas.{leaf-after}
use Rattle.bench_store.proofs.spreads.spread_window.Goals as goal

pub invariant_of-whole : goal.invariant_of-whole
invariant_of-whole c = leaf-after _ _ _ c.spread.result c.spread.ensures.ok (λ spreads. spreads.leaf) c.spread.ensures.err c.whole.invariant
