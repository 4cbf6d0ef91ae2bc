use Rattle.store_model.proofs.PruneLemmas.{store_pruned, row_settled}
use Rattle.store_model.proofs.laws.prunes_keep_stores.Goals as goal

pub returns-clause-pruned : goal.returns-clause-pruned
returns-clause-pruned c = store_pruned

pub returns-clause-settled : goal.returns-clause-settled
returns-clause-settled c = row_settled
