use Rattle.pass_prunes.specs.PassSteps.Asking.{asking_of}
use Rattle.pass_writes.proofs.checks.check.Given as given

abbrev pub ghosts-check_as : given.ghosts-check_as
ghosts-check_as a = record { asking = asking_of a.store.now a.pass.now a.clock }
