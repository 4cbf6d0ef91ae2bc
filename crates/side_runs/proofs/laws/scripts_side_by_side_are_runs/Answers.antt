use Rattle.side_runs.proofs.ClosingLemmas.{is_run, are_made}
use Rattle.side_runs.proofs.laws.scripts_side_by_side_are_runs.Goals as goal

pub returns-clause-runs : goal.returns-clause-runs
returns-clause-runs c = is_run

pub returns-clause-made : goal.returns-clause-made
returns-clause-made c = are_made
