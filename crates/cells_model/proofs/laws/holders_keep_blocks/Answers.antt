use Rattle.cells_model.proofs.BlockLemmas.{unpacks_cell, stores_word, packs_cell, changes_cells}
use Rattle.cells_model.proofs.laws.holders_keep_blocks.Goals as goal

pub returns-clause-unpacks : goal.returns-clause-unpacks
returns-clause-unpacks c = unpacks_cell

pub returns-clause-stores : goal.returns-clause-stores
returns-clause-stores c = stores_word

pub returns-clause-packs : goal.returns-clause-packs
returns-clause-packs c = packs_cell

pub returns-clause-changes : goal.returns-clause-changes
returns-clause-changes c = changes_cells
