use Rattle.serial_model.proofs.FootprintLemmas.{answers_depend}
use Rattle.serial_model.proofs.CommitLemmas.{others_leave}
use Rattle.serial_model.proofs.laws.answers_depend_on_footprints.Goals as goal

pub returns-clause-graphs : goal.returns-clause-graphs
returns-clause-graphs c = answers_depend

pub returns-clause-commits : goal.returns-clause-commits
returns-clause-commits c = others_leave
