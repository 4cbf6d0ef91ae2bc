use Rattle.store_relation.proofs.AccountLemmas.{account_begins, account_writes, account_commits, account_commits_none, account_aborts, account_sees, account_sights}
use Rattle.store_relation.proofs.laws.accounts_follow_steps.Goals as goal

pub returns-clause-begin : goal.returns-clause-begin
returns-clause-begin c = account_begins

pub returns-clause-write : goal.returns-clause-write
returns-clause-write c = account_writes

pub returns-clause-commit : goal.returns-clause-commit
returns-clause-commit c = account_commits

pub returns-clause-commit_none : goal.returns-clause-commit_none
returns-clause-commit_none c = account_commits_none

pub returns-clause-abort : goal.returns-clause-abort
returns-clause-abort c = account_aborts

pub returns-clause-see : goal.returns-clause-see
returns-clause-see c = account_sees

pub returns-clause-sight : goal.returns-clause-sight
returns-clause-sight c = account_sights
