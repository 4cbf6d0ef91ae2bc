use Rattle.store_model.proofs.StampedLemmas.{read_forgets, prune_forgets, prune_is_right, stamp_keeps, stamp_is_right, stamps_grow}
use Rattle.store_model.proofs.laws.stamps_change_no_value.Goals as goal

pub returns-clause-read : goal.returns-clause-read
returns-clause-read c = read_forgets

pub returns-clause-prune : goal.returns-clause-prune
returns-clause-prune c = λ stamps horizon r is. (prune_forgets stamps horizon r is, prune_is_right stamps horizon r is)

pub returns-clause-stamp : goal.returns-clause-stamp
returns-clause-stamp c = λ stamps by d r has is. (stamp_keeps by d r, stamp_is_right stamps by d has r is)

pub returns-clause-grow : goal.returns-clause-grow
returns-clause-grow c = stamps_grow
