use Rattle.store_relation.proofs.CommitLemmas.{stamps, publishes, stamps_rows}
use Rattle.store_relation.proofs.laws.commits_keep_the_rule.Goals as goal

pub returns-clause-stamp : goal.returns-clause-stamp
returns-clause-stamp c = λ z word pass j rows clock s. stamps s

pub returns-clause-publish : goal.returns-clause-publish
returns-clause-publish c = λ z word pass j rows clock s. publishes s

pub returns-clause-rows : goal.returns-clause-rows
returns-clause-rows c = λ z word pass j rows clock s. stamps_rows s
