use Rattle.pass_steps.proofs.PassLemmas.{idle_pass_is_back, new_pass_is_idle}
use Rattle.pass_steps.proofs.laws.passes_come_and_go.Goals as goal

pub returns-clause-new : goal.returns-clause-new
returns-clause-new c = new_pass_is_idle

pub returns-clause-back : goal.returns-clause-back
returns-clause-back c = idle_pass_is_back
