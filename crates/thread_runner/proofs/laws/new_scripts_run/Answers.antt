use Rattle.thread_runner.proofs.NewLemmas.{new_ready, new_runs}
use Rattle.thread_runner.proofs.laws.new_scripts_run.Goals as goal

pub returns-clause-ready : goal.returns-clause-ready
returns-clause-ready c = new_ready

pub returns-clause-run : goal.returns-clause-run
returns-clause-run c = new_runs
