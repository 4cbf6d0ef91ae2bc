use Rattle.side_runs.proofs.ExampleLemmas.{side_by_side}
use Rattle.side_runs.proofs.laws.worked_side_runs_hold.Goals as goal

pub returns : goal.returns
returns c = side_by_side
