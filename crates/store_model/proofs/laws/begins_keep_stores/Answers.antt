use Rattle.store_model.proofs.NewLemmas.{store_new}
use Rattle.store_model.proofs.StoreLemmas.{store_begun, store_stopped}
use Rattle.store_model.proofs.OwnerLemmas.{owner_begun}
use Rattle.store_model.proofs.laws.begins_keep_stores.Goals as goal

pub returns-clause-new : goal.returns-clause-new
returns-clause-new c = store_new

pub returns-clause-begun : goal.returns-clause-begun
returns-clause-begun c = store_begun

pub returns-clause-owner : goal.returns-clause-owner
returns-clause-owner c = owner_begun

pub returns-clause-stopped : goal.returns-clause-stopped
returns-clause-stopped c = store_stopped
