use Rattle.serial_model.proofs.SerialLemmas.{serial_is_run}
use Rattle.serial_model.proofs.laws.serial_stepped_runs_are_serial_runs.Goals as goal

pub returns : goal.returns
returns c = serial_is_run
