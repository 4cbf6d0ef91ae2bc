use Rattle.density_tree.specs.Windows.{IsDense, NoneBelow}
use Rattle.density_tree.proofs.window.window_for_sparse.Given as goal

abbrev pub invariant-heights : goal.invariant-heights
invariant-heights l = NoneBelow (IsDense l.counts) l.seg l.height
