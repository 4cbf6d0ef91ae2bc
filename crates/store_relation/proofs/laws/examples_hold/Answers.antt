use Rattle.store_relation.proofs.ExampleLemmas.{right_steps, step_results, wrong_steps, wrong_reads}
use Rattle.store_relation.proofs.laws.examples_hold.Goals as goal

pub returns-clause-right : goal.returns-clause-right
returns-clause-right c = right_steps

pub returns-clause-results : goal.returns-clause-results
returns-clause-results c = step_results

pub returns-clause-wrong : goal.returns-clause-wrong
returns-clause-wrong c = wrong_steps

pub returns-clause-reads : goal.returns-clause-reads
returns-clause-reads c = wrong_reads
