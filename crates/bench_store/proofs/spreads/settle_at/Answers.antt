use Rattle.leaf_array.proofs.StayLemmas.{leaf-stays}
use Rattle.bench_store.proofs.spreads.settle_at.Goals as goal

pub invariant_of-whole : goal.invariant_of-whole
invariant_of-whole c = leaf-stays _ _ _ _ c.whole.invariant c.requires c.settle.ensures
