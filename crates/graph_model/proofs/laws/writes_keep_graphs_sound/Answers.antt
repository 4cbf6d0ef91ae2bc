use Rattle.graph_model.proofs.WriteLemmas.{keeps_ends, keeps_symmetric}
use Rattle.graph_model.proofs.laws.writes_keep_graphs_sound.Goals as goal

pub returns-clause-ends : goal.returns-clause-ends
returns-clause-ends c = keeps_ends

pub returns-clause-symmetric : goal.returns-clause-symmetric
returns-clause-symmetric c = keeps_symmetric
