use Rattle.std.proofs.Common.{subst}
use Rattle.leaf_index.specs.Index.{IsIndex}
use Rattle.leaf_index.proofs.IndexLemmas.{kept_index}
use Rattle.leaf_index.proofs.index.LeafIndex.is_index.Goals as goal

pub returns-clause-index : goal.returns-clause-index
returns-clause-index c = subst IsIndex c.self.view_is (kept_index _ _ _ _ c.self.invariant.0)
