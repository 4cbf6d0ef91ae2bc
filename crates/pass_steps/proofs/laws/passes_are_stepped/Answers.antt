use Rattle.pass_steps.proofs.PassLemmas.{pass_has_looked, pass_is_stepped}
use Rattle.pass_steps.proofs.laws.passes_are_stepped.Goals as goal

pub returns-clause-step : goal.returns-clause-step
returns-clause-step c = pass_is_stepped

pub returns-clause-look : goal.returns-clause-look
returns-clause-look c = pass_has_looked
