use Rattle.graph_model.proofs.JournalExampleLemmas.{legal_journals, illegal_journals, views, accounts, begins, writes, commits}
use Rattle.graph_model.proofs.laws.journal_examples_hold.Goals as goal

pub returns-clause-legal : goal.returns-clause-legal
returns-clause-legal c = legal_journals

pub returns-clause-illegal : goal.returns-clause-illegal
returns-clause-illegal c = illegal_journals

pub returns-clause-views : goal.returns-clause-views
returns-clause-views c = views

pub returns-clause-accounts : goal.returns-clause-accounts
returns-clause-accounts c = accounts

pub returns-clause-begins : goal.returns-clause-begins
returns-clause-begins c = begins

pub returns-clause-writes : goal.returns-clause-writes
returns-clause-writes c = writes

pub returns-clause-commits : goal.returns-clause-commits
returns-clause-commits c = commits
