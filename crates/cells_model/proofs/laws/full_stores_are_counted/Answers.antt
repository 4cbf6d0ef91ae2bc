use Rattle.cells_model.proofs.MovedLemmas.{full_is_counted}
use Rattle.cells_model.proofs.laws.full_stores_are_counted.Goals as goal

pub returns : goal.returns
returns c = record { full = full_is_counted }
