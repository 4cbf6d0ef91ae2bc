use Rattle.store_rule.specs.Filling.{AreNoRows}
use Rattle.store_rule.proofs.make.settled_cells.Given as goal

abbrev pub invariant-cells : goal.invariant-cells
invariant-cells l = AreNoRows l._cell l.list.items
