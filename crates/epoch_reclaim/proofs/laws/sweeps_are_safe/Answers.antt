use Rattle.epoch_reclaim.proofs.PinLemmas.{sweep_begins, sweep_looks, horizon_safe}
use Rattle.epoch_reclaim.proofs.laws.sweeps_are_safe.Goals as goal

pub returns-clause-begins : goal.returns-clause-begins
returns-clause-begins c = sweep_begins

pub returns-clause-looks : goal.returns-clause-looks
returns-clause-looks c = sweep_looks

pub returns-clause-horizon : goal.returns-clause-horizon
returns-clause-horizon c = horizon_safe
