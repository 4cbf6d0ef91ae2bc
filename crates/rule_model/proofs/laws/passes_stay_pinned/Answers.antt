use Rattle.rule_model.proofs.PinStepLemmas.{pass_announces, pass_pins, pass_unpins, leaf_is_noted}
use Rattle.rule_model.proofs.laws.passes_stay_pinned.Goals as goal

pub returns-clause-announce : goal.returns-clause-announce
returns-clause-announce c = pass_announces

pub returns-clause-pin : goal.returns-clause-pin
returns-clause-pin c = pass_pins

pub returns-clause-unpin : goal.returns-clause-unpin
returns-clause-unpin c = pass_unpins

pub returns-clause-note : goal.returns-clause-note
returns-clause-note c = leaf_is_noted
