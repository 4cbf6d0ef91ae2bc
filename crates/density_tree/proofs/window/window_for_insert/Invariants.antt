use Rattle.density_tree.specs.Windows.{Fits, NoneBelow}
use Rattle.density_tree.proofs.window.window_for_insert.Given as goal

abbrev pub invariant-heights : goal.invariant-heights
invariant-heights l = NoneBelow (Fits l.counts l.need) l.seg l.height
