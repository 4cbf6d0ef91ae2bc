use Rattle.leaf_store.proofs.FillEndLemmas.{LaidSoFar}
use Rattle.leaf_store.proofs.fill.fill_rest.Given as goal

abbrev pub invariant-leaves : goal.invariant-leaves
invariant-leaves l = LaidSoFar l.rows l.fn.index l.fn.leaves.items l.fn.made.items l.left l.place l.index l.leaves.items l.made.items

abbrev pub decreases-leaves : goal.decreases-leaves
decreases-leaves l = l.left
