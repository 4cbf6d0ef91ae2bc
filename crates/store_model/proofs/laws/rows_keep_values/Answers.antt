use Rattle.store_model.proofs.VersionLemmas.{own_write_is_seen, other_write_is_not_seen, undo_takes_back, touch_is_not_read, prune_keeps_values}
use Rattle.store_model.proofs.laws.rows_keep_values.Goals as goal

pub returns-clause-own : goal.returns-clause-own
returns-clause-own c = own_write_is_seen

pub returns-clause-other : goal.returns-clause-other
returns-clause-other c = other_write_is_not_seen

pub returns-clause-undo : goal.returns-clause-undo
returns-clause-undo c = undo_takes_back

pub returns-clause-touch : goal.returns-clause-touch
returns-clause-touch c = touch_is_not_read

pub returns-clause-prune : goal.returns-clause-prune
returns-clause-prune c = prune_keeps_values
