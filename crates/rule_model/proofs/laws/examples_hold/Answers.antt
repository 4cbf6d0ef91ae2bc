use Rattle.rule_model.proofs.ExampleLemmas.{place_examples, wrong_rules}
use Rattle.rule_model.proofs.laws.examples_hold.Goals as goal

pub returns-clause-places : goal.returns-clause-places
returns-clause-places c = place_examples

pub returns-clause-wrong : goal.returns-clause-wrong
returns-clause-wrong c = wrong_rules
