use Rattle.kept_program.proofs.LawLemmas.{calls_end_well, roomy_calls_end_well, calls_make_graphs}
use Rattle.kept_program.proofs.laws.accepted_calls_end_well.Goals as goal

pub returns-clause-ends : goal.returns-clause-ends
returns-clause-ends g c = calls_end_well g.K.Disk.moment g.K.Disk.may_leave g.K.Disk.left_since

pub returns-clause-room : goal.returns-clause-room
returns-clause-room g c = roomy_calls_end_well g.K.Disk.moment g.K.Disk.may_leave g.K.Disk.left_since

pub returns-clause-graphs : goal.returns-clause-graphs
returns-clause-graphs g c = calls_make_graphs g.K.Disk.moment g.K.Disk.may_leave g.K.Disk.left_since
