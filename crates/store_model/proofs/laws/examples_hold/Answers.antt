use Rattle.store_model.proofs.ExampleLemmas.{store_holds}
use Rattle.store_model.proofs.laws.examples_hold.Goals as goal

pub returns-clause-store : goal.returns-clause-store
returns-clause-store c = store_holds
