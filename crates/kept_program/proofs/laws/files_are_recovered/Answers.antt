use Rattle.kept_program.proofs.LawLemmas.{files_recovered}
use Rattle.kept_program.proofs.laws.files_are_recovered.Goals as goal

pub returns : goal.returns
returns g c = files_recovered g.K.Disk.moment g.K.Disk.may_leave g.K.Disk.left_since
