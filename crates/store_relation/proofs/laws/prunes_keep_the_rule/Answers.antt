use Rattle.store_relation.proofs.RowStepLemmas.{prunes}
use Rattle.store_relation.proofs.laws.prunes_keep_the_rule.Goals as goal

pub returns : goal.returns
returns c = λ z word pass j rows clock s. prunes s
