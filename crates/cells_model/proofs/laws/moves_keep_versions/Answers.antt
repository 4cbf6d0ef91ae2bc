use Rattle.cells_model.proofs.MovedLemmas.{spreads_cells, splits_cells, merges_cells, frees_cells}
use Rattle.cells_model.proofs.laws.moves_keep_versions.Goals as goal

pub returns-clause-spreads : goal.returns-clause-spreads
returns-clause-spreads c = spreads_cells

pub returns-clause-splits : goal.returns-clause-splits
returns-clause-splits c = splits_cells

pub returns-clause-merges : goal.returns-clause-merges
returns-clause-merges c = merges_cells

pub returns-clause-frees : goal.returns-clause-frees
returns-clause-frees c = frees_cells
