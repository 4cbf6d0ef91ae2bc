use Rattle.graph_model.proofs.RowLemmas.{rows_rise_between, row_is_between, row_at_between, ranges_adjoin}
use Rattle.graph_model.proofs.laws.rows_are_of_the_graph.Goals as goal

pub returns-clause-rise : goal.returns-clause-rise
returns-clause-rise c = rows_rise_between

pub returns-clause-sound : goal.returns-clause-sound
returns-clause-sound c = row_is_between

pub returns-clause-complete : goal.returns-clause-complete
returns-clause-complete c = row_at_between

pub returns-clause-adjoin : goal.returns-clause-adjoin
returns-clause-adjoin c = ranges_adjoin
