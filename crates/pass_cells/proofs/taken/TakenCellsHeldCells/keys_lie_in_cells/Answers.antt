use Rattle.pass_cells.proofs.TakenLemmas.{have_cells}
use Rattle.pass_cells.proofs.taken.TakenCellsHeldCells.keys_lie_in_cells.Goals as goal

pub returns : goal.returns
returns c = have_cells c.args.self.now.list.items
