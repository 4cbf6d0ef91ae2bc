use Rattle.store_model.proofs.StoreLemmas.{store_written}
use Rattle.store_model.proofs.OwnerLemmas.{owner_written}
use Rattle.store_model.proofs.LoadLemmas.{owner_loaded}
use Rattle.store_model.proofs.laws.writes_keep_stores.Goals as goal

pub returns-clause-written : goal.returns-clause-written
returns-clause-written c = store_written

pub returns-clause-owner : goal.returns-clause-owner
returns-clause-owner c = owner_written

pub returns-clause-loaded : goal.returns-clause-loaded
returns-clause-loaded c = owner_loaded
