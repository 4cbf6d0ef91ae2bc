use Rattle.rule_model.proofs.PinStepLemmas.{sweeper_begins_step, other_sweep_begins_step, sweep_looks_step, leaves_are_freed, sweeper_ends_step, other_sweep_ends_step}
use Rattle.rule_model.proofs.laws.sweeps_keep_the_rule.Goals as goal

pub returns-clause-begin : goal.returns-clause-begin
returns-clause-begin c = sweeper_begins_step

pub returns-clause-other_begins : goal.returns-clause-other_begins
returns-clause-other_begins c = other_sweep_begins_step

pub returns-clause-look : goal.returns-clause-look
returns-clause-look c = sweep_looks_step

pub returns-clause-free : goal.returns-clause-free
returns-clause-free c = leaves_are_freed

pub returns-clause-end : goal.returns-clause-end
returns-clause-end c = sweeper_ends_step

pub returns-clause-other_ends : goal.returns-clause-other_ends
returns-clause-other_ends c = other_sweep_ends_step
