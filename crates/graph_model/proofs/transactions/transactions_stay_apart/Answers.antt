use Rattle.graph_model.proofs.TransactionLemmas.{none_at_first, begin_keeps, write_keeps, commit_keeps, end_keeps, horizon_keeps}
use Rattle.graph_model.proofs.transactions.transactions_stay_apart.Goals as goal

pub returns-clause-at_first : goal.returns-clause-at_first
returns-clause-at_first c = none_at_first

pub returns-clause-begin : goal.returns-clause-begin
returns-clause-begin c = begin_keeps

pub returns-clause-write : goal.returns-clause-write
returns-clause-write c = write_keeps

pub returns-clause-commit : goal.returns-clause-commit
returns-clause-commit c = commit_keeps

pub returns-clause-end : goal.returns-clause-end
returns-clause-end c = end_keeps

pub returns-clause-horizon : goal.returns-clause-horizon
returns-clause-horizon c = horizon_keeps
