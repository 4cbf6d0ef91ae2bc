use Rattle.run_model.proofs.FullLemmas.{full_settles}
use Rattle.run_model.proofs.laws.full_lines_settle_runs.Goals as goal

pub returns : goal.returns
returns c = full_settles
