use Rattle.store_model.proofs.StoreLemmas.{store_committed}
use Rattle.store_model.proofs.OwnerLemmas.{owner_committed}
use Rattle.store_model.proofs.laws.commits_keep_stores.Goals as goal

pub returns-clause-committed : goal.returns-clause-committed
returns-clause-committed c = store_committed

pub returns-clause-owner : goal.returns-clause-owner
returns-clause-owner c = owner_committed
