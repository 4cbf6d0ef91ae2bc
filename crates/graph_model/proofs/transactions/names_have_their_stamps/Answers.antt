use Rattle.graph_model.proofs.StampLemmas.{stamp_none, stamp_at, stamp_longer, reached_at, unreached_at}
use Rattle.graph_model.proofs.transactions.names_have_their_stamps.Goals as goal

pub returns-clause-commit : goal.returns-clause-commit
returns-clause-commit c = λ kind journal running horizon are i d at. (
  stamp_at journal are.legal.names i d at,
  λ s lt. reached_at kind journal are.legal i d s at lt,
  λ s le. unreached_at kind journal are.legal i d s at le,
)

pub returns-clause-none : goal.returns-clause-none
returns-clause-none c = stamp_none

pub returns-clause-stays : goal.returns-clause-stays
returns-clause-stays c = stamp_longer
