use Rattle.graph_model.proofs.LoadLemmas.{loads}
use Rattle.graph_model.proofs.OwnerExampleLemmas.{owner_writes, owner_refusals, full_leaves, services}
use Rattle.graph_model.proofs.owner.owner_examples_hold.Goals as goal

pub returns : goal.returns
returns c = record { writes = owner_writes; refusals = owner_refusals; full = full_leaves; service = services; loads = loads }
