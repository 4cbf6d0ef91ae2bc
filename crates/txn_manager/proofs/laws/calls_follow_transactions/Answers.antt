use Rattle.txn_manager.proofs.OpenLemmas.{none_at_first, opened_is_open, written_is_open, ended_is_gone, open_is_running}
use Rattle.txn_manager.proofs.laws.calls_follow_transactions.Goals as goal

pub returns-clause-first : goal.returns-clause-first
returns-clause-first c = none_at_first

pub returns-clause-begin : goal.returns-clause-begin
returns-clause-begin c = opened_is_open

pub returns-clause-write : goal.returns-clause-write
returns-clause-write c = λ m running are by t there. written_is_open m running are by t there

pub returns-clause-end : goal.returns-clause-end
returns-clause-end c = λ m running are by t there running' ch.
    (ended_is_gone m running are by t there running' ch, ended_is_gone m running are by t there running' ch)

pub returns-clause-running : goal.returns-clause-running
returns-clause-running c = open_is_running
