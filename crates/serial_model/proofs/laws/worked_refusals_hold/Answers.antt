use Rattle.serial_model.proofs.ExampleLemmas.{refusals, skew}
use Rattle.serial_model.proofs.laws.worked_refusals_hold.Goals as goal

pub returns-clause-refusals : goal.returns-clause-refusals
returns-clause-refusals c = refusals

pub returns-clause-skew : goal.returns-clause-skew
returns-clause-skew c = skew
