use Rattle.teseo_program.proofs.LawLemmas.{graphs_made}
use Rattle.teseo_program.proofs.laws.graphs_are_made.Goals as goal

pub returns : goal.returns
returns c = graphs_made
