use Rattle.std.proofs.Common.{◌+◌, subst, sym}
use Rattle.store_rule.specs.Filling.{AreNoRows}
use Rattle.store_rule.proofs.MakeLemmas.{no_rows_more}
use Rattle.store_rule.proofs.make.settled_cells.Goals as goal

pub cells-preserved : goal.cells-preserved
cells-preserved c =
    subst (AreNoRows (c.cells._cell + 1)) (sym c.in_ok-push.ensures.items)
    (no_rows_more c.cells.list.items c.cells._cell c.settled.result c.cells.invariant c.settled.ensures)
