use Rattle.graph_model.proofs.SerialLemmas.{legal_serial, ends_follow, start_is_enough}
use Rattle.graph_model.proofs.laws.commits_are_serial.Goals as goal

pub returns-clause-serial : goal.returns-clause-serial
returns-clause-serial c = legal_serial

pub returns-clause-ends : goal.returns-clause-ends
returns-clause-ends c = ends_follow

pub returns-clause-later : goal.returns-clause-later
returns-clause-later c = start_is_enough
