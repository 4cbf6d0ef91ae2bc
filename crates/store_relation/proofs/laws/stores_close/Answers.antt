use Rattle.store_relation.proofs.EndLemmas.{clock_below, clock_bound, closes}
use Rattle.store_relation.proofs.AccountLemmas.{account_valid}
use Rattle.store_relation.proofs.laws.stores_close.Goals as goal

pub returns-clause-clock : goal.returns-clause-clock
returns-clause-clock c = λ z word pass j rows clock s. (clock_below s, clock_bound s)

pub returns-clause-account : goal.returns-clause-account
returns-clause-account c = λ z word pass j rows clock s. account_valid s

pub returns-clause-close : goal.returns-clause-close
returns-clause-close c = λ z word pass j rows clock s. closes s
