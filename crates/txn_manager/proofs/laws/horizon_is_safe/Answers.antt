use Rattle.txn_manager.proofs.HorizonLemmas.{horizon_is_below, horizon_is_within, horizon_is_greatest}
use Rattle.txn_manager.proofs.laws.horizon_is_safe.Goals as goal

pub returns-clause-below : goal.returns-clause-below
returns-clause-below c = horizon_is_below

pub returns-clause-within : goal.returns-clause-within
returns-clause-within c = horizon_is_within

pub returns-clause-greatest : goal.returns-clause-greatest
returns-clause-greatest c = horizon_is_greatest
