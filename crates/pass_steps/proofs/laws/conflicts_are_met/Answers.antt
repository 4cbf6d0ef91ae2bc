use Rattle.pass_steps.proofs.ConflictLemmas.{holder_is_met, later_is_met}
use Rattle.pass_steps.proofs.laws.conflicts_are_met.Goals as goal

pub returns-clause-later : goal.returns-clause-later
returns-clause-later c = later_is_met

pub returns-clause-holder : goal.returns-clause-holder
returns-clause-holder c = holder_is_met
