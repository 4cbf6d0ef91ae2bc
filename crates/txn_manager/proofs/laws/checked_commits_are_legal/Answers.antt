use Rattle.txn_manager.proofs.OpenLemmas.{checked_commit}
use Rattle.txn_manager.proofs.laws.checked_commits_are_legal.Goals as goal

pub returns : goal.returns
returns c = λ kind m running horizon are checked by t there wrote running' ch. checked_commit m running are by t there kind horizon checked wrote running' ch
