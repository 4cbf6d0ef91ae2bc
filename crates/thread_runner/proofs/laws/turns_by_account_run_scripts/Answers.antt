use Rattle.thread_runner.proofs.RunLemmas.{turns_keep, over_has_run}
use Rattle.thread_runner.proofs.laws.turns_by_account_run_scripts.Goals as goal

pub returns-clause-turns : goal.returns-clause-turns
returns-clause-turns c = turns_keep

pub returns-clause-over : goal.returns-clause-over
returns-clause-over c = over_has_run
