use Rattle.store_relation.proofs.SpokenLemmas.{forget_after, forget_before, stamped_after, stamped_before}
use Rattle.store_relation.proofs.KeyLemmas.{after_beside, before_beside, one_beside, changed_covers, left_still}
use Rattle.store_relation.proofs.laws.rows_change_by_writes.Goals as goal

pub returns-clause-write : goal.returns-clause-write
returns-clause-write c = forget_after

pub returns-clause-undo : goal.returns-clause-undo
returns-clause-undo c = forget_before

pub returns-clause-stamps : goal.returns-clause-stamps
returns-clause-stamps c = λ stamps kind by w k r is. (stamped_after stamps kind by w k r is, stamped_before stamps kind by w k r is)

pub returns-clause-others : goal.returns-clause-others
returns-clause-others c = λ kind by w k r away. (after_beside kind by w k r away, before_beside kind by w k r away)

pub returns-clause-keys : goal.returns-clause-keys
returns-clause-keys c = one_beside

pub returns-clause-changed : goal.returns-clause-changed
returns-clause-changed c = changed_covers

pub returns-clause-left : goal.returns-clause-left
returns-clause-left c = left_still
