use Rattle.store_model.proofs.StoreLemmas.{store_undone}
use Rattle.store_model.proofs.OwnerLemmas.{owner_aborted}
use Rattle.store_model.proofs.laws.undos_keep_stores.Goals as goal

pub returns-clause-undone : goal.returns-clause-undone
returns-clause-undone c = store_undone

pub returns-clause-owner : goal.returns-clause-owner
returns-clause-owner c = owner_aborted
