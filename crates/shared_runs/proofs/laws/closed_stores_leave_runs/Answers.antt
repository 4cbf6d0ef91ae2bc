use Rattle.shared_runs.proofs.ClosingLemmas.{leave_runs}
use Rattle.shared_runs.proofs.laws.closed_stores_leave_runs.Goals as goal

pub returns : goal.returns
returns c = leave_runs
