use Rattle.pass_steps.specs.Asking.{kept_part, lent_part}
use Rattle.pass_readers.proofs.lend.take_own.Given as given

abbrev pub ghosts-cut_as : given.ghosts-cut_as
ghosts-cut_as a = record { left = λ v. kept_part v; right = λ v. lent_part v }
