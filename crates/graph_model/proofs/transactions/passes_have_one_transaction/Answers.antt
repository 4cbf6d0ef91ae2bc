use Rattle.graph_model.proofs.PassLemmas.{changes_latest, changes_next, is_listed, state_in-set}
use Rattle.graph_model.proofs.transactions.passes_have_one_transaction.Goals as goal

pub returns-clause-latest : goal.returns-clause-latest
returns-clause-latest g c = changes_latest

pub returns-clause-next : goal.returns-clause-next
returns-clause-next g c = changes_next

pub returns-clause-listed : goal.returns-clause-listed
returns-clause-listed g c = λ number current other closed from states. is_listed number current other closed from states

pub returns-clause-revised : goal.returns-clause-revised
returns-clause-revised g c = state_in-set
