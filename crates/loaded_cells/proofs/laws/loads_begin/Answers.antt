use Rattle.loaded_cells.proofs.BeginLemmas.{load_begins}
use Rattle.loaded_cells.proofs.laws.loads_begin.Goals as goal

pub returns : goal.returns
returns c = load_begins
