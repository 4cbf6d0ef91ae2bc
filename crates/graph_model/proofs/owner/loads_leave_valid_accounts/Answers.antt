use Rattle.graph_model.proofs.LoadLemmas.{load_is_legal, load_is_valid}
use Rattle.graph_model.proofs.owner.loads_leave_valid_accounts.Goals as goal

pub returns : goal.returns
returns c = record { journal = load_is_legal; accounts = load_is_valid }
