use Rattle.store_relation.proofs.RowStepLemmas.{undoes}
use Rattle.store_relation.proofs.StepLemmas.{stops, ends}
use Rattle.store_relation.proofs.laws.aborts_keep_the_rule.Goals as goal

pub returns-clause-stop : goal.returns-clause-stop
returns-clause-stop c = λ z word pass j rows clock s. stops s

pub returns-clause-undo : goal.returns-clause-undo
returns-clause-undo c = λ z word pass j rows clock s. undoes s

pub returns-clause-end : goal.returns-clause-end
returns-clause-end c = λ z word pass j rows clock s. ends s
