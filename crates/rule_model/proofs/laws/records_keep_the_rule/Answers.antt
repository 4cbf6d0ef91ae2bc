use Rattle.rule_model.proofs.RowStepLemmas.{rows_are_stamped, rows_are_pruned}
use Rattle.rule_model.proofs.laws.records_keep_the_rule.Goals as goal

pub returns-clause-stamp : goal.returns-clause-stamp
returns-clause-stamp c = rows_are_stamped

pub returns-clause-prune : goal.returns-clause-prune
returns-clause-prune c = rows_are_pruned
