use Rattle.store_model.proofs.CellLemmas.{contents_routed, cell_changed}
use Rattle.store_model.proofs.laws.cells_hold_contents.Goals as goal

pub returns-clause-routed : goal.returns-clause-routed
returns-clause-routed c = contents_routed

pub returns-clause-changed : goal.returns-clause-changed
returns-clause-changed c = cell_changed
