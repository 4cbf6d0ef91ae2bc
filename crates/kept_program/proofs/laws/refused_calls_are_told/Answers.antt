use Rattle.kept_program.proofs.LawLemmas.{faulty_told, long_told}
use Rattle.kept_program.proofs.FaultLemmas.{bad_words_told}
use Rattle.kept_program.proofs.laws.refused_calls_are_told.Goals as goal

pub returns-clause-faulty : goal.returns-clause-faulty
returns-clause-faulty g c = faulty_told g.K.Disk.moment g.K.Disk.may_leave g.K.Disk.left_since

pub returns-clause-long : goal.returns-clause-long
returns-clause-long g c = long_told g.K.Disk.moment g.K.Disk.may_leave g.K.Disk.left_since

pub returns-clause-words : goal.returns-clause-words
returns-clause-words g c = bad_words_told g.K.Disk.moment g.K.Disk.may_leave g.K.Disk.left_since
