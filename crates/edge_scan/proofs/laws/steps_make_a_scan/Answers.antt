use Rattle.edge_scan.proofs.StepLemmas.{no_key_is_left, steps_are_a_scan}
use Rattle.edge_scan.proofs.laws.steps_make_a_scan.Goals as goal

pub returns-clause-empty : goal.returns-clause-empty
returns-clause-empty c = no_key_is_left

pub returns-clause-portion : goal.returns-clause-portion
returns-clause-portion c = steps_are_a_scan
