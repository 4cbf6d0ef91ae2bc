use Rattle.graph_model.proofs.ViewLemmas.{view_symmetric, view_bounded, view_no_loops, view_ends}
use Rattle.graph_model.proofs.laws.views_are_sound.Goals as goal

pub returns-clause-symmetric : goal.returns-clause-symmetric
returns-clause-symmetric c = view_symmetric

pub returns-clause-bounded : goal.returns-clause-bounded
returns-clause-bounded c = view_bounded

pub returns-clause-no_loops : goal.returns-clause-no_loops
returns-clause-no_loops c = view_no_loops

pub returns-clause-ends : goal.returns-clause-ends
returns-clause-ends c = view_ends
