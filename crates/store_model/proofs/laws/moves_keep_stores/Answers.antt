use Rattle.store_model.proofs.StoreLemmas.{store_same}
use Rattle.store_model.proofs.OwnerLemmas.{owner_moved}
use Rattle.store_model.proofs.laws.moves_keep_stores.Goals as goal

pub returns-clause-same : goal.returns-clause-same
returns-clause-same c = store_same

pub returns-clause-owner : goal.returns-clause-owner
returns-clause-owner c = owner_moved
