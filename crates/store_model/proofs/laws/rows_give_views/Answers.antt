use Rattle.store_model.proofs.ValueLemmas.{value_at_stamp, value_of_view, value_at_end}
use Rattle.store_model.proofs.laws.rows_give_views.Goals as goal

pub returns-clause-stamp : goal.returns-clause-stamp
returns-clause-stamp c = value_at_stamp

pub returns-clause-view : goal.returns-clause-view
returns-clause-view c = value_of_view

pub returns-clause-end : goal.returns-clause-end
returns-clause-end c = value_at_end
