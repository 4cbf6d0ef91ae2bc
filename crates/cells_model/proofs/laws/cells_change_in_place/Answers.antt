use Rattle.cells_model.proofs.InPlaceLemmas.{cells_change_in_place}
use Rattle.cells_model.proofs.GrowthLemmas.{growth_is_by_rows}
use Rattle.cells_model.proofs.laws.cells_change_in_place.Goals as goal

pub returns-clause-changes : goal.returns-clause-changes
returns-clause-changes c = cells_change_in_place

pub returns-clause-growth : goal.returns-clause-growth
returns-clause-growth c = growth_is_by_rows
