use Rattle.rule_model.proofs.TxnLemmas.{clock_is_loaded, room_is_made, transaction_begins, stamp_is_stored, commit_is_published, abort_begins, transaction_ends}
use Rattle.rule_model.proofs.laws.transactions_keep_the_rule.Goals as goal

pub returns-clause-clock : goal.returns-clause-clock
returns-clause-clock c = clock_is_loaded

pub returns-clause-room : goal.returns-clause-room
returns-clause-room c = room_is_made

pub returns-clause-begin : goal.returns-clause-begin
returns-clause-begin c = transaction_begins

pub returns-clause-stamp : goal.returns-clause-stamp
returns-clause-stamp c = stamp_is_stored

pub returns-clause-publish : goal.returns-clause-publish
returns-clause-publish c = commit_is_published

pub returns-clause-stop : goal.returns-clause-stop
returns-clause-stop c = abort_begins

pub returns-clause-end : goal.returns-clause-end
returns-clause-end c = transaction_ends
