use Rattle.cells_model.proofs.IndexedLemmas.{fences_tell, cells_show, moves_indexed, new_indexed}
use Rattle.cells_model.proofs.NumberedLemmas.{numbered_is_indexed}
use Rattle.cells_model.proofs.laws.cells_are_indexed.Goals as goal

pub returns-clause-tell : goal.returns-clause-tell
returns-clause-tell c = fences_tell

pub returns-clause-show : goal.returns-clause-show
returns-clause-show c = cells_show

pub returns-clause-moves : goal.returns-clause-moves
returns-clause-moves c = moves_indexed

pub returns-clause-new : goal.returns-clause-new
returns-clause-new c = new_indexed

pub returns-clause-numbered : goal.returns-clause-numbered
returns-clause-numbered c = numbered_is_indexed
