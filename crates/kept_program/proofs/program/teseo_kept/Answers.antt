use Rattle.kept_program.proofs.FaultLemmas.{status_tells}
use Rattle.kept_program.proofs.StatusLemmas.{exact_number}
use Rattle.kept_program.proofs.program.teseo_kept.Goals as goal

pub returns-clause-faults : goal.returns-clause-faults
returns-clause-faults g c = (status_tells _ _ _ _ _ _ _ _ _ _ c.status.ensures c.outcome_of.ensures).0

pub returns-clause-nothing_created : goal.returns-clause-nothing_created
returns-clause-nothing_created g c = (status_tells _ _ _ _ _ _ _ _ _ _ c.status.ensures c.outcome_of.ensures).1

pub returns-clause-exact : goal.returns-clause-exact
returns-clause-exact g c = λ no_fault stands.
    exact_number g.K.Disk.moment g.K.Disk.may_leave g.K.Disk.left_since _ _ _ _ _ _ _ _ _ c.outcome_of.ensures no_fault stands _ c.status.ensures
