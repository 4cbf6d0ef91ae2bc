use Rattle.store_relation.proofs.RowStepLemmas.{writes_by_row}
use Rattle.store_relation.proofs.StepLemmas.{fills}
use Rattle.store_relation.proofs.laws.writes_keep_the_rule.Goals as goal

pub returns-clause-write : goal.returns-clause-write
returns-clause-write c = λ z word pass j rows clock s. writes_by_row s

pub returns-clause-full : goal.returns-clause-full
returns-clause-full c = λ z word pass j rows clock s. fills s
